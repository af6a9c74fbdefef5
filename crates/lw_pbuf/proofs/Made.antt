-- Chains that are made, or refused.
use Rattle.std.proofs.Common.{◌≡◌, ℕ, suc, ◌+◌, ◌-◌, ◌*◌, ◌^◌, ◌<◌, ◌≤◌, Bool, true, false, cond, List, ◌++◌, length, take, min, refl, sym, ap, ◌∙◌, subst, arith, length-append}
use mathlib.Core.Logic.{dite}
use native.Mathlib.Decide.{dec_le}
use Rattle.std.proofs.Common.{Result, Ok, Err}
use Rattle.std.specs.Result.{IfErr}
use Rattle.lw_pbuf.specs.declared.make.AllocFault.{AllocFault}
use Rattle.lw_pbuf.specs.declared.make.AllocFault.TheVariants.{PoolEmpty, TooLong, NoMemory}
use Rattle.std.proofs.lemmas.List.Elements.{All-same}
use Rattle.lw_payload.specs.declared.kinds.Kind.{Kind}
use Rattle.lw_payload.specs.declared.kinds.Kind.TheVariants.{Ram, Pool, Rom, Ref}
use Rattle.lw_payload.specs.Views.{pbufs_of, pool_one}
use Rattle.pbuf_counts.specs.Owners.{claim_weight, first_adds, times}
use Rattle.pbuf_counts.specs.Holders.{Known}
use Rattle.pbuf_seats.specs.declared.kept.Kept.{Kept}
use Rattle.pbuf_seats.specs.declared.makes.Makes.{Makes}
use Rattle.pbuf_seats.specs.Kept.{counts_of, rows_of, free_count}
use Rattle.pbuf_seats.specs.Owners.{adds_of}
use Rattle.pbuf_seats.specs.Seats.{SeatSeen}
use Rattle.pbuf_spans.specs.Parts.{Part, joined, all_own, rows_in, weight_in, IsSpent, GivesBack}
use Rattle.lw_pbuf.specs.Chains.{ChainSeen, IsOf}
use Rattle.lw_pbuf.specs.Takes.{claims_in, is_counted, places_of, free_in, AreTaken, AllTried}
use Rattle.lw_pbuf.specs.Makes.{body_of, granted_of, denied_of, IsAlloc, IsDenied, KeepsSeat}
use Rattle.lw_pbuf.proofs.Tried.{kept_full, counted_full, claimed_there, places_law}
use Rattle.lw_pbuf.proofs.Taken.{counted_same}

-- a chain that fits has few pbufs
pub few_pbufs : (kind : Kind) (n : ℕ) → n ≤ 65535 → pbufs_of kind n ≤ 65535
few_pbufs Ram n fits = omega arith
few_pbufs Pool n fits = omega arith
few_pbufs Rom n fits = omega arith
few_pbufs Ref n fits = omega arith

-- what the owners of a chain's pbufs weigh, and how many of them claims made
weighs_all : (h k : SeatSeen) (kind : Kind) (ps : List Part) (n : ℕ) (b : Bool) → AreTaken h k kind ps → length ps ≡ n → is_counted h kind ≡ b → (weight_in ps ≡ claim_weight * cond b n 0) × (claims_in ps ≡ cond b n 0)
weighs_all h k kind ps n true a parts e = let q = a.counted e in (let w = q.1 in omega arith, let w = q.0 in omega arith)
weighs_all h k kind ps n false a parts e = let q = a.kept e in (let w = q.1 in omega arith, q.0)

-- where the claims of a make are counted
claimed_back : (h k l : SeatSeen) (kind : Kind) (ps : List Part) → AreTaken h k kind ps → (kind ≡ Pool → h.claimed ≡ 0) → (kind ≡ Pool → l.claimed ≡ 0) → ((kind ≡ Pool → ⊥) → l.claimed ≡ k.claimed) → l.claimed ≡ h.claimed
claimed_back h k l Pool ps a before settled other = settled refl ∙ sym (before refl)
claimed_back h k l Ram ps a before settled other = let o = other (λ e. cc) in let g = a.claimed in omega arith
claimed_back h k l Rom ps a before settled other = let o = other (λ e. cc) in let g = a.claimed in omega arith
claimed_back h k l Ref ps a before settled other = let o = other (λ e. cc) in let g = a.claimed in omega arith

asked_granted : (kind : Kind) (n : ℕ) (m : Makes) → (granted_of kind n m).asked ≤ m.asked + pool_one kind * pbufs_of kind n
asked_granted Ram n m = omega arith
asked_granted Pool n m = omega arith
asked_granted Rom n m = omega arith
asked_granted Ref n m = omega arith

asked_denied : (kind : Kind) (n : ℕ) (m : Makes) → (denied_of kind n m).asked ≤ m.asked + pool_one kind * pbufs_of kind n
asked_denied Ram n m = omega arith
asked_denied Pool n m = omega arith
asked_denied Rom n m = omega arith
asked_denied Ref n m = omega arith

-- the seat after a make that was counted
abbrev pub counted_as : SeatSeen → SeatSeen → SeatSeen
counted_as k l = record k { makes = l.makes; claimed = l.claimed }

module _ (h k l : SeatSeen) (kind : Kind) (ps : List Part) (a : AreTaken h k kind ps) (same : l ≡ counted_as k l) where
  pub alloc_made : (c : ChainSeen) (text : List ℕ) → c.parts ≡ ps → c.table ≡ h.holder.table → all_own ps ≡ true → joined ps ≡ text → length ps ≡ pbufs_of kind (length text)
      → ((i : ℕ) → length (joined (take i ps)) ≡ min (i * body_of kind) (length text)) → l.makes ≡ granted_of kind (length text) k.makes → IsAlloc h l kind text c
  alloc_made c text is table own octets parts full makes =
      let w = weighs_all h k kind ps (pbufs_of kind (length text)) (is_counted h kind) a parts refl in
      let g = a.gives in
      record {
        octets = ap joined is ∙ octets;
        parts = ap (λ (x : List Part). length x) is ∙ parts;
        full = λ i. ap (λ (x : List Part). length (joined (take i x))) is ∙ full i;
        fresh = ap all_own is ∙ own;
        adds = All-same (λ (p : Part). adds_of p.owner ≡ first_adds) c.parts ps is a.adds;
        table = table;
        rows = λ s. let m = g.more s in let e = ap (λ (x : SeatSeen). rows_of x.kept s) same in let r = ap (λ (x : List Part). rows_in x s) is in omega arith;
        kept = λ s some. a.rows s (let r = ap (λ (x : List Part). rows_in x s) is in omega arith);
        alone = λ s some. a.alone s (let r = ap (λ (x : List Part). rows_in x s) is in omega arith);
        free = λ off. let q = (a.kept off).2 in let e = ap (λ (x : SeatSeen). free_in x kind) same in omega arith;
        weighs = ap weight_in is ∙ w.0;
        weight = let m = g.less in let e = ap (λ (x : SeatSeen). x.holder.weight) same in let r = ap weight_in is in omega arith;
        claims = let m = g.got in let e = ap (λ (x : SeatSeen). length x.holder.got) same in let z = w.1 in omega arith;
        enough = λ off. let q = (a.kept off).2 in omega arith;
        makes = makes ∙ ap (granted_of kind (length text)) g.makes;
      }

  pub made_of : (c : ChainSeen) → c.parts ≡ ps → c.table ≡ h.holder.table → IsOf l c
  made_of c is table = record {
    table = table ∙ sym (ap (λ (x : SeatSeen). x.holder.table) same ∙ a.gives.table);
    listed = λ s. let m = a.gives.more s in let e = ap (λ (x : SeatSeen). rows_of x.kept s) same in let r = ap (λ (x : List Part). rows_in x s) is in omega arith;
  }

  pub made_keeps : (kind ≡ Pool → h.claimed ≡ 0) → (kind ≡ Pool → l.claimed ≡ 0) → ((kind ≡ Pool → ⊥) → l.claimed ≡ k.claimed) → k.makes.asked ≤ l.makes.asked → (n : ℕ) → l.makes ≡ granted_of kind n k.makes → KeepsSeat h l kind n
  made_keeps before settled other grows n makes = record {
    table = ap (λ (x : SeatSeen). x.holder.table) same ∙ a.gives.table;
    right = ap (λ (x : SeatSeen). x.holder.rights) same ∙ a.gives.right;
    sizes = λ j. ap (λ (x : SeatSeen). length (counts_of j x.kept)) same ∙ a.gives.sizes j;
    splits = ap (λ (x : SeatSeen). x.splits) same ∙ a.gives.splits;
    claimed = claimed_back h k l kind ps a before settled other;
    asked_least = let m = ap (λ (x : Makes). x.asked) a.gives.makes in omega arith;
    asked_most = let m = ap (λ (x : Makes). x.asked) a.gives.makes in let e = ap (λ (x : Makes). x.asked) makes in let b = asked_granted kind n k.makes in omega arith;
  }

-- a refusal comes where more pbufs of POOL were asked for than there are
asked_above : (h k l : SeatSeen) (kind : Kind) (b : Bool) → is_counted h kind ≡ b → AllTried h k kind → is_counted k kind ≡ is_counted h kind → ((j : Kind) → length (counts_of j k.kept) ≡ length (counts_of j h.kept)) → l.holder ≡ k.holder → l.kept ≡ k.kept
    → (l.makes.asked < 2 ^ 64 - 1 → length l.holder.got < l.makes.asked) → (l.makes.asked < 2 ^ 64 - 1 → length l.kept.pool.items < free_count l.kept.pool.items + l.makes.asked) → kind ≡ Pool → places_of h kind < 2 ^ 32 → places_of h kind < l.makes.asked
asked_above h k l kind true on tried counted sizes holder kept claims pool is small =
    let words : places_of h kind ≡ h.holder.table.words = ap (λ (b : Bool). cond b h.holder.table.words (length (counts_of kind h.kept))) on in
    let all = places_law h.holder.table.words k.holder.got (λ place within. claimed_there h.holder k.holder tried.got tried.misses place tried.claims (counted_full h k kind tried on counted place within)) in
    let got = ap (λ (x : Known). length x.got) holder in
    dite (dec_le (suc l.makes.asked) (2 ^ 64 - 1)) (λ below. let c = claims below in omega arith) (λ full. omega arith)
asked_above h k l kind false off tried counted sizes holder kept claims pool is small =
    let places : places_of h kind ≡ length (counts_of kind h.kept) = ap (λ (b : Bool). cond b h.holder.table.words (length (counts_of kind h.kept))) off in
    let full = kept_full h k kind tried off counted (sizes kind) in
    let none : free_count k.kept.pool.items ≡ 0 = subst (λ (x : Kind). free_count (counts_of x k.kept) ≡ 0) is full in
    let size : length k.kept.pool.items ≡ length (counts_of kind h.kept) = subst (λ (x : Kind). length k.kept.pool.items ≡ length (counts_of x h.kept)) (sym is) (sizes Pool) in
    let same = ap (λ (x : Kept). length x.pool.items) kept in
    let free = ap (λ (x : Kept). free_count x.pool.items) kept in
    dite (dec_le (suc l.makes.asked) (2 ^ 64 - 1)) (λ below. let c = pool below in omega arith) (λ all. omega arith)

-- a make was refused and counted, and then its pbufs went back
module _ (h k l m : SeatSeen) (kind : Kind) (ps : List Part) (n : ℕ) (a : AreTaken h k kind ps) (same : l ≡ counted_as k l) (spent : IsSpent l m ps) where
  pub alloc_denied : AllTried h k kind → GivesBack l.holder m.holder → length ps < pbufs_of kind n → l.makes ≡ denied_of kind n k.makes
      → (kind ≡ Pool → l.makes.asked < 2 ^ 64 - 1 → length l.holder.got < l.makes.asked) → (kind ≡ Pool → l.makes.asked < 2 ^ 64 - 1 → length l.kept.pool.items < free_count l.kept.pool.items + l.makes.asked) → places_of h kind < 2 ^ 32 → IsDenied h m kind n
  alloc_denied tried back few makes claims pool small =
      let g = a.gives in
      let counted = counted_same h k kind g.sizes in
      let holder = ap (λ (x : SeatSeen). x.holder) same in
      let kept = ap (λ (x : SeatSeen). x.kept) same in
      let gets = back.gets ∙ (ap (λ (x : Known). x.got) holder ∙ tried.claims.gets) in
      record {
        rows = λ s. let x = g.more s in let y = spent.rows s in let e = ap (λ (x : Kept). rows_of x s) kept in omega arith;
        weight = let x = g.less in let y = spent.weight in let e = ap (λ (x : Known). x.weight) holder in omega arith;
        makes = spent.same.makes ∙ (makes ∙ ap (denied_of kind n) g.makes);
        short = λ off. let full = kept_full h k kind tried off counted (g.sizes kind) in let q = (a.kept off).2 in omega arith;
        asked = λ is. let above = asked_above h k l kind (is_counted h kind) refl tried counted g.sizes holder kept (claims is) (pool is) is small in let e = ap (λ (x : Makes). x.asked) spent.same.makes in omega arith;
        exhausted = λ on. record {
          got = tried.got;
          misses = tried.misses;
          later = back.later;
          gets = gets;
          finds = back.finds ∙ ap (λ (x : List (ℕ × ℕ)). back.later ++ x) (ap (λ (x : Known). x.found) holder ∙ tried.claims.finds);
          in_use = tried.claims.in_use;
          each = counted_full h k kind tried on counted;
          covered = λ place within.
              let there = claimed_there h.holder k.holder tried.got tried.misses place tried.claims (counted_full h k kind tried on counted place within) in
              let e = ap (λ (x : List ℕ). times place x) (back.gets ∙ ap (λ (x : Known). x.got) holder) in
              omega arith;
          few = let q = (a.counted on).0 in let x = g.got in let e = ap (λ (x : List ℕ). length x) tried.claims.gets in let b = length-append tried.got h.holder.got in omega arith;
        };
      }

  pub denied_keeps : (kind ≡ Pool → h.claimed ≡ 0) → (kind ≡ Pool → l.claimed ≡ 0) → ((kind ≡ Pool → ⊥) → l.claimed ≡ k.claimed) → k.makes.asked ≤ l.makes.asked → l.makes ≡ denied_of kind n k.makes → KeepsSeat h m kind n
  denied_keeps before settled other grows makes = record {
    table = spent.same.table ∙ (ap (λ (x : SeatSeen). x.holder.table) same ∙ a.gives.table);
    right = spent.same.right ∙ (ap (λ (x : SeatSeen). x.holder.rights) same ∙ a.gives.right);
    sizes = λ j. spent.same.sizes j ∙ (ap (λ (x : SeatSeen). length (counts_of j x.kept)) same ∙ a.gives.sizes j);
    splits = spent.same.splits ∙ (ap (λ (x : SeatSeen). x.splits) same ∙ a.gives.splits);
    claimed = spent.same.claimed ∙ claimed_back h k l kind ps a before settled other;
    asked_least = let q = ap (λ (x : Makes). x.asked) a.gives.makes in let e = ap (λ (x : Makes). x.asked) spent.same.makes in omega arith;
    asked_most = let q = ap (λ (x : Makes). x.asked) a.gives.makes in let d = ap (λ (x : Makes). x.asked) spent.same.makes in let e = ap (λ (x : Makes). x.asked) makes in let b = asked_denied kind n k.makes in omega arith;
  }

-- a seat that stays keeps what it has
pub keeps_same : (h k : SeatSeen) (kind : Kind) (n : ℕ) → k ≡ h → KeepsSeat h k kind n
keeps_same h k kind n same = record {
  table = ap (λ (x : SeatSeen). x.holder.table) same;
  right = ap (λ (x : SeatSeen). x.holder.rights) same;
  sizes = λ j. ap (λ (x : SeatSeen). length (counts_of j x.kept)) same;
  splits = ap (λ (x : SeatSeen). x.splits) same;
  claimed = ap (λ (x : SeatSeen). x.claimed) same;
  asked_least = let e = ap (λ (x : SeatSeen). x.makes.asked) same in omega arith;
  asked_most = let e = ap (λ (x : SeatSeen). x.makes.asked) same in omega arith;
}

-- a call that is only ever refused as PoolEmpty
pub refused_as : (kind : Kind) (D : Type 0) (r : Result ChainSeen AllocFault) (f : AllocFault) → IfErr r (λ e. (e ≡ PoolEmpty kind) × D) → r ≡ Err f → (f ≡ PoolEmpty kind) × D
refused_as kind D (Ok c) f e is = absurd (let i = is in cc)
refused_as kind D (Err g) f e is = (let i = is in let a = e.0 in cc, e.1)

pub refused_kind : (kind k : Kind) (D : Type 0) (r : Result ChainSeen AllocFault) → IfErr r (λ e. (e ≡ PoolEmpty kind) × D) → r ≡ Err (PoolEmpty k) → (k ≡ kind) × D
refused_kind kind k D r e is = let q = refused_as kind D r (PoolEmpty k) e is in (let a = q.0 in cc, q.1)

pub not_too_long : (kind : Kind) (D X : Type 0) (r : Result ChainSeen AllocFault) → IfErr r (λ e. (e ≡ PoolEmpty kind) × D) → r ≡ Err TooLong → X
not_too_long kind D X r e is = absurd (let a = (refused_as kind D r TooLong e is).0 in cc)

pub not_no_memory : (kind : Kind) (D X : Type 0) (r : Result ChainSeen AllocFault) → IfErr r (λ e. (e ≡ PoolEmpty kind) × D) → r ≡ Err NoMemory → X
not_no_memory kind D X r e is = absurd (let a = (refused_as kind D r NoMemory e is).0 in cc)
