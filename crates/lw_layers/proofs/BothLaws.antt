-- What a datagram that is sent claims: a payload of ROM or REF, and one of RAM.
use Rattle.std.proofs.Common.{◌≡◌, ℕ, zero, suc, ◌+◌, ◌*◌, ◌≤◌, ◌<◌, ◌⊎◌, inl, inr, ◌++◌, ◌∙◌, List, [], ◌∷◌, Option, Some, None, IsSome, length, refl, sym, ap, subst, arith}
use Rattle.std.specs.Prelude.{IsSomeAnd, IsTrue}
use Rattle.std.specs.List.{range_with_len, sum_by}
use Rattle.std.proofs.Math.Path.{fun_ext}
use Rattle.std.proofs.lemmas.List.Sums.{sum_by-cons}
use Rattle.lw_payload.specs.declared.kinds.Kind.{Kind}
use Rattle.lw_payload.specs.declared.kinds.Kind.TheVariants.{Ram, Pool, Rom, Ref}
use Rattle.lw_payload.specs.Views.{Slot, View, HomeView, Pools, Makes as Counts, IsShort, free_of, pbufs_of, pool_one, used_of}
use Rattle.lw_payload.specs.Calls.{IsMade, IsRefused, KeepsHome, last_of}
use Rattle.lw_payload.specs.Totals.{total, IsOwned, Moves}
use Rattle.lw_payload.proofs.RowLaws.{used_of-free_of, used_of-le, used_of-plus, used_of-rows}
use Rattle.lw_payload.proofs.TotalLaws.{IsOwned-moved, Moves-made, Moves-then}
use Rattle.lw_layers.specs.Claims.{AreClaimed, AreRefused, IsClaimed, IsRefusedKind, Makes, MakesPayloads}
use Rattle.lw_layers.proofs.ClaimLaws.{claim_moves, refused_moves}
use Rattle.lw_layers.proofs.MoveLaws.{IsOwned-by, Moves-back, Moves-by, Moves-front}

-- One payload

by_none : (one n a b : ℕ) → one ≡ 0 → a ≤ b → b ≤ a + one * n → b ≡ a
by_none zero n a b e least most = omega arith
by_none (suc m) n a b e least most = absurd (omega arith)

same_counts : (m n : Counts) → m.made ≡ n.made → m.refused ≡ n.refused → m.last_refused ≡ n.last_refused → m.asked ≡ n.asked → m ≡ n
same_counts m n a b c d = grind arith

same_last : (kind : Kind) (n last : ℕ) → pool_one kind ≡ 0 → last_of kind n last ≡ last
same_last Ram n last one = refl
same_last Pool n last one = absurd (omega arith)
same_last Rom n last one = refl
same_last Ref n last one = refl

-- a payload of a kind whose makes aren't counted was made
pub claimed_made : {P : Type 0} (seen : P → View) (h k : HomeView) (kind : Kind) (text : List ℕ) (p : P) → length text ≤ 1500 → pool_one kind ≡ 0 → pbufs_of kind (length text) ≡ pbufs_of kind 1
    → KeepsHome h k kind (length text) → IsMade h k kind text (seen p) → ¬ (IsShort h kind (length text)) → IsClaimed kind h k (seen p)
claimed_made seen h k kind text p few one same keeps made enough = record {
  rows = made.rows;
  alone = λ s some. (made.kept s some).0;
  weight = made.weight;
  pools = keeps.pools;
  counts = (Moves-made seen h k kind text p (omega arith) one keeps made).counts;
  family = made.family;
  short = let l = ap length made.octets in omega arith;
  free = λ short. enough (subst (λ (n : ℕ). IsSomeAnd (h.pools.size kind) (λ size. free_of h.rows kind size < n)) (sym same) short);
}

-- or refused
pub refused_made : {H : Type 0} (may_refuse : H → H → Kind → ℕ → Type 0) (home after : H) (h k : HomeView) (kind : Kind) (n : ℕ) → pool_one kind ≡ 0 → pbufs_of kind n ≡ pbufs_of kind 1
    → KeepsHome h k kind n → may_refuse home after kind n → IsRefused h k kind n → (IsSome (h.pools.size kind) → IsShort h kind n) → IsRefusedKind may_refuse home h k kind
refused_made may_refuse home after h k kind n one same keeps may refused kept = record {
  short = record {
    after = after;
    octets = n;
    refused = may;
    kept = λ is. subst (λ (m : ℕ). IsSomeAnd (h.pools.size kind) (λ size. free_of h.rows kind size < m)) same (kept is);
  };
  rows = refused.rows;
  weight = refused.weight;
  pools = keeps.pools;
  counts = same_counts k.counts h.counts refused.made (let r = refused.refused in omega arith) (refused.last_refused ∙ same_last kind n h.counts.last_refused one)
      (let a = keeps.asked_least in let b = keeps.asked_most in by_none (pool_one kind) (pbufs_of kind n) h.counts.asked k.counts.asked one a b);
}

-- Pbufs that are free

on_some : {A : Type 0} (P Q : A → Type 0) (o : Option A) → ((x : A) → P x → Q x) → IsSomeAnd o P → IsSomeAnd o Q
on_some P Q (Some x) f h = f x h
on_some P Q None f h = h

-- a Home that makes payloads of n octets makes shorter ones
pub makes_fewer : (h : HomeView) (kind : Kind) (n m : ℕ) → m ≤ n → Makes h kind n → Makes h kind m
makes_fewer h kind n m few makes = record {
  makes = makes.makes;
  fits = λ long. makes.fits (on_some (λ (most : ℕ). most < m) (λ (most : ℕ). most < n) (h.pools.longest kind) (λ most less. omega arith) long);
}

-- another Home with the same pools makes the same
pub makes_still : (h k : HomeView) (kind : Kind) (n : ℕ) → k.pools ≡ h.pools → Makes h kind n → Makes k kind n
makes_still h k kind n pools makes = record {
  makes = subst (λ (p : Pools). IsTrue (p.makes kind)) (sym pools) makes.makes;
  fits = λ long. makes.fits (subst (λ (p : Pools). IsSomeAnd (p.longest kind) (λ most. most < n)) pools long);
}

-- ROM and REF aren't counted, and are made of one octet
pub uncounted : (kind : Kind) → (kind ≡ Rom) ⊎ (kind ≡ Ref) → pool_one kind ≡ 0
uncounted kind (inl is) = ap pool_one is
uncounted kind (inr is) = ap pool_one is

pub makes_of : (h : HomeView) (kind : Kind) → (kind ≡ Rom) ⊎ (kind ≡ Ref) → MakesPayloads h → Makes h kind 1
makes_of h kind (inl is) makes = subst (λ (k : Kind). Makes h k 1) (sym is) makes.rom
makes_of h kind (inr is) makes = subst (λ (k : Kind). Makes h k 1) (sym is) makes.ref

-- where fewer pbufs of a kind are used, it isn't short sooner
shorter : (h k : HomeView) (kind : Kind) (m : ℕ) → k.pools ≡ h.pools → ((n : ℕ) → used_of h.rows kind n ≤ used_of k.rows kind n) → IsShort h kind m → IsShort k kind m
shorter h k kind m pools used short =
    subst (λ (p : Pools). IsSomeAnd (p.size kind) (λ size. free_of k.rows kind size < pbufs_of kind m)) (sym pools)
    (on_some (λ (size : ℕ). free_of h.rows kind size < pbufs_of kind m) (λ (size : ℕ). free_of k.rows kind size < pbufs_of kind m) (h.pools.size kind)
    (λ size few. let one = used_of-free_of h.rows kind size in let two = used_of-free_of k.rows kind size in let more = used size in omega arith) short)

-- a payload of a kind takes pbufs
more_used : (kind other : Kind) (h k : HomeView) (p : View) → IsClaimed kind h k p → (n : ℕ) → used_of h.rows other n ≤ used_of k.rows other n
more_used kind other h k p claimed n = used_of-le h.rows k.rows other n (λ s. let r = claimed.rows s in omega arith)

no_sum : (f : ℕ → ℕ) (xs : List ℕ) → ((i : ℕ) → f i ≡ 0) → sum_by f xs ≡ 0
no_sum f [] none = refl
no_sum f (x ∷ xs) none = let rest = no_sum f xs none in let first = none x in let sum = sum_by-cons f x xs in omega arith

none_of : (n : ℕ) → (0 < n → ⊥) → n ≡ 0
none_of zero none = refl
none_of (suc n) none = absurd (none (omega arith))

-- but none of another kind
none_used : (kind other : Kind) (h k : HomeView) (p : View) → (other ≡ kind → ⊥) → IsClaimed kind h k p → (n : ℕ) → used_of k.rows other n ≤ used_of h.rows other n
none_used kind other h k p apart claimed n =
    let plus = used_of-plus h.rows p.rows k.rows other n claimed.rows in
    let rows = used_of-rows p.rows other n in
    let none = no_sum (λ (i : ℕ). p.rows (record { kind = other; place = i })) (range_with_len 0 n) (λ i. none_of (p.rows (record { kind = other; place = i })) (λ some. apart (claimed.alone (record { kind = other; place = i }) some))) in
    omega arith

-- ROM and REF aren't RAM
other_kind : (kind : Kind) → (kind ≡ Rom) ⊎ (kind ≡ Ref) → Ram ≡ kind → ⊥
other_kind kind (inl own) is = let h : Ram ≡ Rom = is ∙ own in cc
other_kind kind (inr own) is = let h : Ram ≡ Ref = is ∙ own in cc

-- What came out of the Home

-- a payload that was claimed may be given back
pub alone_owned : {P : Type 0} (seen : P → View) (kind : Kind) (h k : HomeView) (p : P) → IsClaimed kind h k (seen p) → IsOwned k (total seen k.pools.family (p ∷ []))
alone_owned seen kind h k p claimed =
    IsOwned-by seen k.pools.family h.pools.family k (p ∷ []) (sym (ap (λ (x : Pools). x.family) claimed.pools))
    (IsOwned-moved h k (total seen h.pools.family []) (total seen h.pools.family (p ∷ [])) (record { rows = λ s. omega arith; strangers = refl }) (claim_moves seen kind h k p claimed))

-- also after another was refused
pub refused_owned : {P H : Type 0} (seen : P → View) (may_refuse : H → H → Kind → ℕ → Type 0) (home : H) (kind : Kind) (i j : HomeView) (p : P) → IsRefusedKind may_refuse home i j kind
    → IsOwned i (total seen i.pools.family (p ∷ [])) → IsOwned j (total seen j.pools.family (p ∷ []))
refused_owned seen may_refuse home kind i j p refused owned =
    IsOwned-by seen j.pools.family i.pools.family j (p ∷ []) (sym (ap (λ (x : Pools). x.family) refused.pools))
    (IsOwned-moved i j (total seen i.pools.family (p ∷ [])) (total seen i.pools.family (p ∷ [])) owned (refused_moves may_refuse home i j kind (total seen i.pools.family (p ∷ [])) refused))

pub both_claimed : {P : Type 0} (seen : P → View) (kind : Kind) (h i k : HomeView) (rom ram : P) → IsClaimed kind h i (seen rom) → IsClaimed Ram i k (seen ram) → AreClaimed seen kind h k rom ram
both_claimed seen kind h i k rom ram first second = record {
  moves = let f = h.pools.family in
      Moves-then h i k (total seen f []) (total seen f (rom ∷ [])) (total seen f (rom ∷ ram ∷ []))
      (claim_moves seen kind h i rom first)
      (Moves-back seen f i k [] (ram ∷ []) (rom ∷ []) (Moves-by seen f i.pools.family i k [] (ram ∷ []) (ap (λ (p : Pools). p.family) first.pools) (claim_moves seen Ram i k ram second)));
  free = first.free;
  free_ram = λ short. second.free (shorter h i Ram 1 first.pools (more_used kind Ram h i (seen rom) first) short);
}

pub first_refused : {P H : Type 0} (seen : P → View) (may_refuse : H → H → Kind → ℕ → Type 0) (home : H) (kind : Kind) (h k : HomeView) → IsRefusedKind may_refuse home h k kind → AreRefused seen may_refuse kind h k
first_refused seen may_refuse home kind h k refused = record {
  moves = refused_moves may_refuse home h k kind (total seen h.pools.family []) refused;
  short = inl (record { before = home; after = refused.short.after; octets = refused.short.octets; refused = refused.short.refused; kept = refused.short.kept });
}

pub second_refused : {P H : Type 0} (seen : P → View) (may_refuse : H → H → Kind → ℕ → Type 0) (home : H) (kind : Kind) (h i j k : HomeView) (rom : P) → (kind ≡ Rom) ⊎ (kind ≡ Ref)
    → IsClaimed kind h i (seen rom) → IsRefusedKind may_refuse home i j Ram → Moves j k (total seen j.pools.family (rom ∷ [])) (total seen j.pools.family [])
    → AreRefused seen may_refuse kind h k
second_refused {P} {H} seen may_refuse home kind h i j k rom either claimed refused spent =
    let f = h.pools.family in
    let pools : j.pools ≡ h.pools = refused.pools ∙ claimed.pools in
    record {
      moves = Moves-then h j k (total seen f []) (total seen f (rom ∷ [])) (total seen f [])
          (Moves-then h i j (total seen f []) (total seen f (rom ∷ [])) (total seen f (rom ∷ []))
          (claim_moves seen kind h i rom claimed)
          (refused_moves may_refuse home i j Ram (total seen f (rom ∷ [])) refused))
          (Moves-by seen f j.pools.family j k (rom ∷ []) [] (ap (λ (p : Pools). p.family) pools) spent);
      short = inr (record {
        before = home;
        after = refused.short.after;
        octets = refused.short.octets;
        refused = refused.short.refused;
        kept = λ kept. shorter i h Ram 1 (sym claimed.pools) (none_used kind Ram h i (seen rom) (other_kind kind either) claimed)
            (refused.short.kept (subst (λ (p : Pools). IsSome (p.size Ram)) (sym claimed.pools) kept));
      });
    }

-- a payload that was claimed and given back leaves the Home as it was
pub given_back : {P : Type 0} (seen : P → View) (kind : Kind) (h i j k : HomeView) (rom : P) → IsClaimed kind h i (seen rom) → j ≡ i → Moves j k (total seen j.pools.family (rom ∷ [])) (total seen j.pools.family []) → k ≡ h
given_back {P} seen kind h i j k rom claimed is spent =
    let back : Moves i k (total seen i.pools.family (rom ∷ [])) (total seen i.pools.family []) = subst (λ (x : HomeView). Moves x k (total seen x.pools.family (rom ∷ [])) (total seen x.pools.family [])) is spent in
    let rows : (s : Slot) → k.rows s ≡ h.rows s = λ s. let a = claimed.rows s in let b = back.rows s in omega arith in
    let weight : k.weight ≡ h.weight = let a = claimed.weight in let b = back.weight in omega arith in
    let home : Pools → (Slot → ℕ) → ℕ → Counts → HomeView = λ p r w c. record { pools = p; rows = r; weight = w; counts = c } in
    ap (λ (p : Pools). home p k.rows k.weight k.counts) (back.pools ∙ claimed.pools)
    ∙ ap (λ (r : Slot → ℕ). home h.pools r k.weight k.counts) (fun_ext rows)
    ∙ ap (λ (w : ℕ). home h.pools h.rows w k.counts) weight
    ∙ ap (λ (c : Counts). home h.pools h.rows h.weight c) (back.counts ∙ claimed.counts)

-- What the stack holds beside them

pub both_owned : {P : Type 0} (seen : P → View) (kind : Kind) (h k : HomeView) (rom ram : P) (held : List P) → AreClaimed seen kind h k rom ram
    → IsOwned h (total seen h.pools.family held) → IsOwned k (total seen k.pools.family (rom ∷ ram ∷ held))
both_owned seen kind h k rom ram held claimed owned =
    IsOwned-by seen k.pools.family h.pools.family k (rom ∷ ram ∷ held) (sym (ap (λ (p : Pools). p.family) claimed.moves.pools))
    (IsOwned-moved h k (total seen h.pools.family held) (total seen h.pools.family (rom ∷ ram ∷ held)) owned
    (Moves-front seen h.pools.family h k [] (rom ∷ ram ∷ []) held claimed.moves))

pub both_then : {P : Type 0} (seen : P → View) (kind : Kind) (h k l : HomeView) (rom ram : P) (held rest : List P) → AreClaimed seen kind h k rom ram
    → Moves k l (total seen k.pools.family (rom ∷ ram ∷ held)) (total seen k.pools.family rest) → Moves h l (total seen h.pools.family held) (total seen h.pools.family rest)
both_then seen kind h k l rom ram held rest claimed moved =
    let f = h.pools.family in
    Moves-then h k l (total seen f held) (total seen f (rom ∷ ram ∷ held)) (total seen f rest)
    (Moves-front seen f h k [] (rom ∷ ram ∷ []) held claimed.moves)
    (Moves-by seen f k.pools.family k l (rom ∷ ram ∷ held) rest (ap (λ (p : Pools). p.family) claimed.moves.pools) moved)

pub none_then : {P H : Type 0} (seen : P → View) (may_refuse : H → H → Kind → ℕ → Type 0) (kind : Kind) (h k : HomeView) (held : List P) → AreRefused seen may_refuse kind h k
    → Moves h k (total seen h.pools.family held) (total seen h.pools.family held)
none_then seen may_refuse kind h k held refused = Moves-front seen h.pools.family h k [] [] held refused.moves

-- a payload that described octets goes back, and then what is left moves
pub spent_then : {P : Type 0} (seen : P → View) (h j k : HomeView) (rom ram : P) (held rest : List P) → Moves h j (total seen h.pools.family (rom ∷ [])) (total seen h.pools.family [])
    → Moves j k (total seen j.pools.family (ram ∷ held)) (total seen j.pools.family rest) → Moves h k (total seen h.pools.family (rom ∷ ram ∷ held)) (total seen h.pools.family rest)
spent_then seen h j k rom ram held rest spent moved =
    let f = h.pools.family in
    Moves-then h j k (total seen f (rom ∷ ram ∷ held)) (total seen f (ram ∷ held)) (total seen f rest)
    (Moves-front seen f h j (rom ∷ []) [] (ram ∷ held) spent)
    (Moves-by seen f j.pools.family j k (ram ∷ held) rest (ap (λ (p : Pools). p.family) spent.pools) moved)
