-- What cuts leave of spans.
use Rattle.std.proofs.Common.{◌≡◌, ℕ, ◌+◌, ◌-◌, ◌<◌, ◌≤◌, min, List, [], ◌∷◌, ◌++◌, length, set, take, drop, get_or, All, refl, sym, ap, ◌∙◌, subst, arith, length-append, length-drop, length-take, append-nil, ◌⊎◌, inl, inr, Some}
use Rattle.std.specs.List.{remove}
use Rattle.std.proofs.Math.Seq.{take-append-add}
use Rattle.std.proofs.lemmas.Bool.{cases_lt}
use Rattle.std.proofs.lemmas.List.{take-append-le, take_all, take_at, drop_all}
use Rattle.std.proofs.lemmas.List.Elements.{All-head, All-tail, All-cons, All-pop, All-push}
use Rattle.atomic_table.specs.Seated.{TableId}
use Rattle.lw_payload.specs.Views.{Slot}
use Rattle.pbuf_seats.specs.Kept.{rows_of}
use Rattle.pbuf_seats.specs.Seats.{SeatSeen}
use Rattle.pbuf_spans.specs.Parts.{Part, joined, rows_in, IsChain, IsSpent}
use Rattle.lw_pbuf.specs.Chains.{all_parts, NoneEmpty}
use Rattle.pbuf_spans.specs.Cuts.{without_front, with_front, IsCutTo}
use Rattle.pbuf_spans.proofs.Cutting.{still_listed, cut_none, cut_then}
use Rattle.pbuf_spans.proofs.Ends.{front_none, front_within, front_beyond, front_all, back_none, back_within, back_beyond, back_all}
use Rattle.pbuf_spans.proofs.Lists.{joined-append}
use Rattle.lw_pbuf.proofs.Joined.{length-joined-append, few_parts}
use Rattle.lw_pbuf.proofs.Spans.{chain-both, chain-front, chain-back, all_parts-push, drop-both}
use Rattle.lw_pbuf.proofs.Freed.{MayGive, give-front, give-back, give-then, give-rest}
use Rattle.lw_pbuf.proofs.Cutting.{cut_front_of, cut_back_of, cut_spent_front, cut_spent_back}

-- pbufs ps that might be given up to the seat h were cut to qs; those may be given up to k, which the seat is then
pub record Cuts (h k : SeatSeen) (ps qs : List Part) : Type 0 where
  pub may : MayGive k qs
  pub cut : IsCutTo h k ps qs

-- what is left of pbufs that stand before others
pub cuts_front : (h k : SeatSeen) (xs zs ys : List Part) → MayGive h (xs ++ ys) → IsChain k.holder.table zs → length (joined zs) ≤ length (joined xs) → IsCutTo h k xs zs → Cuts h k (xs ++ ys) (zs ++ ys)
cuts_front h k xs zs ys m chain less cut = record {
  may = record {
    chain = chain-both k.holder.table zs ys chain (subst (λ (t : TableId). IsChain t ys) (sym cut.same.table) (chain-back h.holder.table xs ys m.chain)) (let a = length-joined-append xs ys in let s = m.chain.short in omega arith);
    listed = still_listed h k (xs ++ ys) (zs ++ ys) (cut_front_of h k xs zs ys cut) m.listed;
  };
  cut = cut_front_of h k xs zs ys cut;
}

-- and behind others
pub cuts_back : (h k : SeatSeen) (ys xs zs : List Part) → MayGive h (ys ++ xs) → IsChain k.holder.table zs → length (joined zs) ≤ length (joined xs) → IsCutTo h k xs zs → Cuts h k (ys ++ xs) (ys ++ zs)
cuts_back h k ys xs zs m chain less cut = record {
  may = record {
    chain = chain-both k.holder.table ys zs (subst (λ (t : TableId). IsChain t ys) (sym cut.same.table) (chain-front h.holder.table ys xs m.chain)) chain (let a = length-joined-append ys xs in let s = m.chain.short in omega arith);
    listed = still_listed h k (ys ++ xs) (ys ++ zs) (cut_back_of h k ys xs zs cut) m.listed;
  };
  cut = cut_back_of h k ys xs zs cut;
}

-- one cut after another
pub cuts_then : (h k l : SeatSeen) (ps qs rs : List Part) → Cuts h k ps qs → Cuts k l qs rs → Cuts h l ps rs
cuts_then h k l ps qs rs a b = record { may = b.may; cut = cut_then h k l ps qs rs a.cut b.cut }

-- where all pbufs of a span are given up, those behind it are left
pub cuts_first : (h k : SeatSeen) (xs ys : List Part) → MayGive h (xs ++ ys) → IsSpent h k xs → Cuts h k (xs ++ ys) ys
cuts_first h k xs ys m spent = record { may = give-rest h k xs ys m spent; cut = cut_spent_front h k xs ys spent }

-- or those before it
pub cuts_last : (h k : SeatSeen) (ys xs : List Part) → MayGive h (ys ++ xs) → IsSpent h k xs → Cuts h k (ys ++ xs) ys
cuts_last h k ys xs m spent = record { may = give-then h k ys xs m spent; cut = cut_spent_back h k ys xs spent }

-- a pbuf has an octet, so pbufs that have an octet together are some
pub some_parts : (ps : List Part) → 0 < length (joined ps) → 0 < length ps
some_parts [] some = some
some_parts (p ∷ ps) some = omega arith

pub some_octets : (ps : List Part) → All (λ p. 0 < length p.octets) ps → 0 < length ps → 0 < length (joined ps)
some_octets ps each some = let f = few_parts ps each in omega arith

-- The octets of two lists of pbufs, of which the first n are cut off: as many of the first list as there are, and the others of the second

pub octets_front : (xs zs ys ws : List Part) (n m : ℕ) → m ≡ min n (length (joined xs)) → joined zs ≡ drop m (joined xs) → joined ws ≡ drop (n - m) (joined ys) → joined (zs ++ ws) ≡ drop n (joined (xs ++ ys))
octets_front xs zs ys ws n m most first second =
    joined-append zs ws ∙ ((λ i. first i ++ second i) ∙ (cut (joined xs) (joined ys) most ∙ ap (drop n) (sym (joined-append xs ys))))
  where
    cut : (a b : List ℕ) → m ≡ min n (length a) → drop m a ++ drop (n - m) b ≡ drop n (a ++ b)
    cut a b e = elim (cases_lt (length a) n) [
      | inl past ↦
          let none : drop m a ≡ drop n a = drop_all m a (omega arith) ∙ sym (drop_all n a (omega arith)) in
          let left : n - m ≡ n - length a = omega arith in
          (λ i. none i ++ drop (left i) b) ∙ sym (drop-both n a b)
      | inr within ↦
          let same : m ≡ n = omega arith in
          let left : n - m ≡ n - length a = omega arith in
          (λ i. drop (same i) a ++ drop (left i) b) ∙ sym (drop-both n a b)
    ]

-- and of which the last n are: as many of the second list as there are, and the others of the first
pub octets_back : (xs zs ys ws : List Part) (n left : ℕ) → left ≡ n - length (joined ys) → joined ws ≡ take (length (joined ys) - n) (joined ys) → joined zs ≡ take (length (joined xs) - left) (joined xs)
    → joined (zs ++ ws) ≡ take (length (joined (xs ++ ys)) - n) (joined (xs ++ ys))
octets_back xs zs ys ws n left rest second first =
    joined-append zs ws ∙ ((λ i. first i ++ second i) ∙ (cut (joined xs) (joined ys) rest ∙ ap (λ (l : List ℕ). take (length l - n) l) (sym (joined-append xs ys))))
  where
    cut : (a b : List ℕ) → left ≡ n - length b → take (length a - left) a ++ take (length b - n) b ≡ take (length (a ++ b) - n) (a ++ b)
    cut a b e = let both = length-append a b in elim (cases_lt (length b) n) [
      | inl past ↦
          let none : length b - n ≡ 0 = omega arith in
          let many : length (a ++ b) - n ≡ length a - left = omega arith in
          ap (λ (k : ℕ). take (length a - left) a ++ take k b) none ∙ (append-nil (take (length a - left) a) ∙ sym (ap (λ (k : ℕ). take k (a ++ b)) many ∙ take-append-le (length a - left) a b (omega arith)))
      | inr within ↦
          let many : length (a ++ b) - n ≡ length a + (length b - n) = omega arith in
          ap (λ (l : List ℕ). l ++ take (length b - n) b) (take_all (length a - left) a (omega arith)) ∙ sym (ap (λ (k : ℕ). take k (a ++ b)) many ∙ take-append-add a b (length b - n))
    ]

-- The pbufs that are left of both where the octets are cut off the back
pub parts_back : (xs zs ys ws : List Part) (n left : ℕ) → All (λ p. 0 < length p.octets) xs → left ≡ n - length (joined ys) → ws ≡ with_front (length (joined ys) - n) ys → zs ≡ with_front (length (joined xs) - left) xs
    → zs ++ ws ≡ with_front (length (joined (xs ++ ys)) - n) (xs ++ ys)
parts_back xs zs ys ws n left some rest second first = (λ i. first i ++ second i) ∙ cut (cases_lt (length (joined ys)) n)
  where
    cut : (length (joined ys) < n) ⊎ (n ≤ length (joined ys)) → with_front (length (joined xs) - left) xs ++ with_front (length (joined ys) - n) ys ≡ with_front (length (joined (xs ++ ys)) - n) (xs ++ ys)
    cut (inl past) =
        let both = length-joined-append xs ys in
        (λ i. with_front (length (joined xs) - left) xs ++ with_front ((let e : length (joined ys) - n ≡ 0 = omega arith in e) i) ys)
        ∙ (ap (λ (l : List Part). with_front (length (joined xs) - left) xs ++ l) (back_none ys) ∙ (append-nil (with_front (length (joined xs) - left) xs)
        ∙ sym (ap (λ (k : ℕ). with_front k (xs ++ ys)) (let e : length (joined (xs ++ ys)) - n ≡ length (joined xs) - left = omega arith in e) ∙ back_within xs ys (length (joined xs) - left) (omega arith))))
    cut (inr within) =
        let both = length-joined-append xs ys in
        ap (λ (l : List Part). l ++ with_front (length (joined ys) - n) ys) (back_all xs (length (joined xs) - left) (omega arith) some)
        ∙ sym (ap (λ (k : ℕ). with_front k (xs ++ ys)) (let e : length (joined (xs ++ ys)) - n ≡ length (joined xs) + (length (joined ys) - n) = omega arith in e) ∙ back_beyond xs ys (length (joined ys) - n) some)

-- the first span of some may be given up
pub first_span : (h : SeatSeen) (ss : List (List Part)) (p : List Part) → MayGive h (all_parts ss) → 0 < length (joined (all_parts ss)) → p ≡ get_or ss 0 p → MayGive h p
first_span h [] p m some is = absurd (omega arith)
first_span h (x ∷ xs) p m some is = subst (λ (y : List Part). MayGive h y) (sym is) (give-front h x (all_parts xs) m)

-- and of a slice of them
pub first_lent : (ss lent : List (List Part)) (p : List Part) → 0 < length (joined (all_parts ss)) → lent ≡ ss → get_or lent 0 p ≡ get_or ss 0 (get_or lent 0 p)
first_lent [] lent p some same = absurd (omega arith)
first_lent (x ∷ xs) lent p some same = ap (λ (l : List (List Part)). get_or l 0 p) same

pub same_first : (ss : List (List Part)) (p q : List Part) → 0 < length (joined (all_parts ss)) → p ≡ get_or ss 0 p → q ≡ get_or ss 0 q → p ≡ q
same_first [] p q some a b = absurd (omega arith)
same_first (x ∷ xs) p q some a b = a ∙ sym b

-- One step of a cut at the front: of the spans ss are left ts, and of n octets still so many are to be cut
pub record CutsFront (h k : SeatSeen) (ss ts : List (List Part)) (n left : ℕ) : Type 0 where
  pub octets : drop left (joined (all_parts ts)) ≡ drop n (joined (all_parts ss))
  pub left_parts : without_front left (all_parts ts) ≡ without_front n (all_parts ss)
  pub within : left ≤ length (joined (all_parts ts))
  pub less : left < n
  pub cuts : Cuts h k (all_parts ss) (all_parts ts)
  pub full : NoneEmpty ts
  pub fewer : length ts ≤ length ss

-- octets of the first span are cut off
pub front_part : (h k : SeatSeen) (ss ts : List (List Part)) (p q : List Part) (n : ℕ) → MayGive h (all_parts ss) → NoneEmpty ss → 0 < n → n ≤ length (joined (all_parts ss)) → p ≡ get_or ss 0 p → n < length (joined p)
    → joined q ≡ drop n (joined p) → q ≡ without_front n p → IsChain k.holder.table q → IsCutTo h k p q → ts ≡ set ss 0 q → CutsFront h k ss ts n 0
front_part h k [] ts p q n m full some within is short octets parts chain cut now = absurd (omega arith)
front_part h k (x ∷ xs) ts p q n m full some within is short octets parts chain cut now =
    subst (λ (l : List (List Part)). CutsFront h k (x ∷ xs) l n 0) (sym now)
    (subst (λ (y : List Part). CutsFront h k (y ∷ xs) (q ∷ xs) n 0) is
    (let long : length (joined q) ≡ length (joined p) - n = ap length octets ∙ length-drop n (joined p) in
    let cuts : Cuts h k (p ++ all_parts xs) (q ++ all_parts xs) = cuts_front h k p q (all_parts xs) (subst (λ (y : List Part). MayGive h (y ++ all_parts xs)) (sym is) m) chain (omega arith) cut in
    record {
      left_parts = front_none (q ++ all_parts xs) cuts.may.chain.some ∙ (ap (λ (l : List Part). l ++ all_parts xs) parts ∙ sym (front_within p (all_parts xs) n short));
      octets = octets_front p q (all_parts xs) (all_parts xs) n n (omega arith) octets (ap (λ (k : ℕ). drop k (joined (all_parts xs))) (let e : 0 ≡ n - n = omega arith in e));
      within = omega arith;
      less = some;
      cuts = cuts;
      full = All-cons (λ (l : List Part). 0 < length l) q xs (some_parts q (omega arith)) (All-tail (λ (l : List Part). 0 < length l) x xs full);
      fewer = omega arith;
    }))

-- the whole first span is cut off
pub front_whole : (h k : SeatSeen) (ss ts : List (List Part)) (p : List Part) (n m left : ℕ) → MayGive h (all_parts ss) → NoneEmpty ss → 0 < n → n ≤ length (joined (all_parts ss)) → p ≡ get_or ss 0 p
    → m ≡ length (joined p) → m ≤ n → left ≡ n - m → ts ≡ remove ss 0 → IsSpent h k p → CutsFront h k ss ts n left
front_whole h k [] ts p n m left may full some within is len long rest removed spent = absurd (omega arith)
front_whole h k (x ∷ xs) ts p n m left may full some within is len long rest removed spent =
    subst (λ (l : List (List Part)). CutsFront h k (x ∷ xs) l n left) (sym removed)
    (let spent_x : IsSpent h k x = subst (λ (y : List Part). IsSpent h k y) is spent in
    let size : m ≡ length (joined x) = len ∙ ap (λ (y : List Part). length (joined y)) is in
    let one : 0 < length (joined x) = some_octets x (chain-front h.holder.table x (all_parts xs) may.chain).some (All-head (λ (l : List Part). 0 < length l) x xs full) in
    let both = length-joined-append x (all_parts xs) in
    record {
      octets = sym (ap (drop n) (joined-append x (all_parts xs)) ∙ (drop-both n (joined x) (joined (all_parts xs))
          ∙ (λ i. drop_all n (joined x) (omega arith) i ++ drop ((let e : n - length (joined x) ≡ left = omega arith in e) i) (joined (all_parts xs)))));
      left_parts = sym (front_beyond x (all_parts xs) n (omega arith) ∙ ap (λ (k : ℕ). without_front k (all_parts xs)) (let e : n - length (joined x) ≡ left = omega arith in e));
      within = omega arith;
      less = omega arith;
      cuts = cuts_first h k x (all_parts xs) may spent_x;
      full = All-tail (λ (l : List Part). 0 < length l) x xs full;
      fewer = omega arith;
    })

-- One step of a cut at the back: a span stood behind the spans ss, of which ts are left, and of n octets still so many are to be cut
pub record CutsBack (h k : SeatSeen) (ss ts : List (List Part)) (p : List Part) (n left : ℕ) : Type 0 where
  pub octets : left ≡ 0 → joined (all_parts ts) ≡ take (length (joined (all_parts ss ++ p)) - n) (joined (all_parts ss ++ p))
  pub left_parts : left ≡ 0 → all_parts ts ≡ with_front (length (joined (all_parts ss ++ p)) - n) (all_parts ss ++ p)
  pub cuts : Cuts h k (all_parts ss ++ p) (all_parts ts)
  pub full : NoneEmpty ts
  pub fewer : length ts ≤ length ss + 1

-- octets of the last span are cut off
pub back_part : (h k : SeatSeen) (ss ts : List (List Part)) (p q : List Part) (n : ℕ) → MayGive h (all_parts ss ++ p) → NoneEmpty ss → n < length (joined p)
    → joined q ≡ take (length (joined p) - n) (joined p) → q ≡ with_front (length (joined p) - n) p → IsChain k.holder.table q → IsCutTo h k p q → ts ≡ ss ++ q ∷ [] → CutsBack h k ss ts p n 0
back_part h k ss ts p q n m full short octets left chain cut now =
    let parts : all_parts ts ≡ all_parts ss ++ q = ap (λ (l : List (List Part)). all_parts l) now ∙ all_parts-push ss q in
    let front = chain-front h.holder.table (all_parts ss) p m.chain in
    let long : length (joined q) ≡ min (length (joined p) - n) (length (joined p)) = ap length octets ∙ length-take (length (joined p) - n) (joined p) in
    record {
      octets = λ _. ap joined parts ∙ octets_back (all_parts ss) (all_parts ss) p q n 0 (omega arith) octets (sym (take_all (length (joined (all_parts ss)) - 0) (joined (all_parts ss)) (omega arith)));
      left_parts = λ _. parts ∙ parts_back (all_parts ss) (all_parts ss) p q n 0 front.some (omega arith) left (sym (back_all (all_parts ss) (length (joined (all_parts ss)) - 0) (omega arith) front.some));
      cuts = subst (λ (l : List Part). Cuts h k (all_parts ss ++ p) l) (sym parts) (cuts_back h k (all_parts ss) p q m chain (omega arith) cut);
      full = subst (λ (l : List (List Part)). NoneEmpty l) (sym now) (All-push (λ (l : List Part). 0 < length l) ss q full (some_parts q (omega arith)));
      fewer = let e = ap (λ (l : List (List Part)). length l) now in let a = length-append ss (q ∷ []) in omega arith;
    }

-- the whole last span is cut off
pub back_whole : (h k : SeatSeen) (ss : List (List Part)) (p : List Part) (n m left : ℕ) → MayGive h (all_parts ss ++ p) → NoneEmpty ss → m ≡ length (joined p) → m ≤ n → left ≡ n - m → IsSpent h k p → CutsBack h k ss ss p n left
back_whole h k ss p n m left may full len long rest spent =
    let both = length-append (joined (all_parts ss)) (joined p) in
    record {
      octets = λ none. sym (ap (λ (l : List ℕ). take (length l - n) l) (joined-append (all_parts ss) p)
          ∙ (ap (λ (k : ℕ). take k (joined (all_parts ss) ++ joined p)) (let e : length (joined (all_parts ss) ++ joined p) - n ≡ length (joined (all_parts ss)) = omega arith in e)
          ∙ take_at (joined (all_parts ss)) (joined p) (length (joined (all_parts ss))) refl));
      left_parts = λ none.
          let size = length-joined-append (all_parts ss) p in
          sym (ap (λ (k : ℕ). with_front k (all_parts ss ++ p)) (let e : length (joined (all_parts ss ++ p)) - n ≡ length (joined (all_parts ss)) = omega arith in e)
          ∙ (back_within (all_parts ss) p (length (joined (all_parts ss))) (omega arith) ∙ back_all (all_parts ss) (length (joined (all_parts ss))) refl (chain-front h.holder.table (all_parts ss) p may.chain).some));
      cuts = cuts_last h k (all_parts ss) p may spent;
      full = full;
      fewer = omega arith;
    }

-- a cut at the back under way: of the spans ss are left ts, and of n octets still so many are to be cut
pub record BackCut (h k : SeatSeen) (ss ts : List (List Part)) (n left : ℕ) : Type 0 where
  pub octets : take (length (joined (all_parts ts)) - left) (joined (all_parts ts)) ≡ take (length (joined (all_parts ss)) - n) (joined (all_parts ss))
  pub left_parts : with_front (length (joined (all_parts ts)) - left) (all_parts ts) ≡ with_front (length (joined (all_parts ss)) - n) (all_parts ss)
  pub count : length (joined (all_parts ts)) + n ≡ length (joined (all_parts ss)) + left
  pub cuts : Cuts h k (all_parts ss) (all_parts ts)
  pub full : NoneEmpty ts
  pub fewer : length ts ≤ length ss

pub back_first : (h : SeatSeen) (ss : List (List Part)) (n : ℕ) → MayGive h (all_parts ss) → NoneEmpty ss → BackCut h h ss ss n n
back_first h ss n m full = record { octets = refl; left_parts = refl; count = refl; cuts = record { may = m; cut = cut_none h (all_parts ss) }; full = full; fewer = omega arith }

module _ (h k : SeatSeen) (ss ts us : List (List Part)) (p : List Part) (n left : ℕ) (b : BackCut h k ss ts n left) (is : ts ≡ us ++ p ∷ []) where
  parts : all_parts ts ≡ all_parts us ++ p
  parts = ap (λ (l : List (List Part)). all_parts l) is ∙ all_parts-push us p

  both_full : NoneEmpty us × (0 < length p)
  both_full = All-pop (λ (l : List Part). 0 < length l) ts us (Some p) is b.full

  back_may : MayGive k (all_parts us ++ p)
  back_may = subst (λ (l : List Part). MayGive k l) parts b.cuts.may

  pub back_less : 0 < left → left - length (joined p) < left
  back_less some = let o = some_octets p (give-back k (all_parts us) p back_may).chain.some both_full.1 in omega arith

  pub back_next : (l : SeatSeen) (vs : List (List Part)) (after : ℕ) → after ≡ left - length (joined p) → (0 < after → vs ≡ us)
      → (after ≡ 0 → joined (all_parts vs) ≡ take (length (joined (all_parts us ++ p)) - left) (joined (all_parts us ++ p)))
      → (after ≡ 0 → all_parts vs ≡ with_front (length (joined (all_parts us ++ p)) - left) (all_parts us ++ p))
      → IsChain l.holder.table (all_parts vs) → ((s : Slot) → rows_in (all_parts vs) s ≤ rows_of l.kept s) → IsCutTo k l (all_parts us ++ p) (all_parts vs) → NoneEmpty vs → length vs ≤ length us + 1 → BackCut h l ss vs n after
  back_next l vs after rest same last last_parts chain listed cut full few =
      let old_count = b.count in
      let at_parts = ap (λ (x : List Part). length (joined x)) parts in
      let both = length-append (joined (all_parts us)) (joined p) in
      let whole = ap length (joined-append (all_parts us) p) in
      elim (cases_lt 0 after) [
        | inl more ↦
            let is_same = ap (λ (x : List (List Part)). length (joined (all_parts x))) (same more) in
            record {
              octets = ap (λ (x : List (List Part)). take (length (joined (all_parts x)) - after) (joined (all_parts x))) (same more)
                  ∙ (sym (ap (λ (x : List Part). take (length (joined x) - left) (joined x)) parts
                  ∙ (ap (λ (x : List ℕ). take (length x - left) x) (joined-append (all_parts us) p)
                  ∙ (ap (λ (j : ℕ). take j (joined (all_parts us) ++ joined p)) (let e : length (joined (all_parts us) ++ joined p) - left ≡ length (joined (all_parts us)) - after = omega arith in e)
                  ∙ take-append-le (length (joined (all_parts us)) - after) (joined (all_parts us)) (joined p) (omega arith))))
                  ∙ b.octets);
              left_parts = ap (λ (x : List (List Part)). with_front (length (joined (all_parts x)) - after) (all_parts x)) (same more)
                  ∙ (sym (ap (λ (x : List Part). with_front (length (joined x) - left) x) parts
                  ∙ (ap (λ (j : ℕ). with_front j (all_parts us ++ p)) (let e : length (joined (all_parts us ++ p)) - left ≡ length (joined (all_parts us)) - after = omega arith in e)
                  ∙ back_within (all_parts us) p (length (joined (all_parts us)) - after) (omega arith)))
                  ∙ b.left_parts);
              count = omega arith;
              cuts = cuts_next;
              full = full;
              fewer = fewer_next;
            }
        | inr done ↦
            let none : after ≡ 0 = omega arith in
            let got = last none in
            let size = ap length got ∙ length-take (length (joined (all_parts us ++ p)) - left) (joined (all_parts us ++ p)) in
            record {
              octets = take_all (length (joined (all_parts vs)) - after) (joined (all_parts vs)) (omega arith) ∙ (got ∙ (sym (ap (λ (x : List Part). take (length (joined x) - left) (joined x)) parts) ∙ b.octets));
              left_parts = back_all (all_parts vs) (length (joined (all_parts vs)) - after) (omega arith) chain.some ∙ (last_parts none ∙ (sym (ap (λ (x : List Part). with_front (length (joined x) - left) x) parts) ∙ b.left_parts));
              count = omega arith;
              cuts = cuts_next;
              full = full;
              fewer = fewer_next;
            }
      ]
    where
      cuts_next : Cuts h l (all_parts ss) (all_parts vs)
      cuts_next = cuts_then h k l (all_parts ss) (all_parts us ++ p) (all_parts vs) (subst (λ (x : List Part). Cuts h k (all_parts ss) x) parts b.cuts) (record { may = record { chain = chain; listed = listed }; cut = cut })

      fewer_next : length vs ≤ length ss
      fewer_next = let f = b.fewer in let e = ap (λ (x : List (List Part)). length x) is in let a = length-append us (p ∷ []) in omega arith
