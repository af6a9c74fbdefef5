-- The rule holds at the start, and what it says at the end.
use Rattle.std.proofs.Common.{◌≡◌, ◌≢◌, ℕ, zero, suc, ◌+◌, ◌<◌, cond, ◌==◌, All, sum_by, count_by, List, [], ◌∷◌, length, Some, sym, refl, ap, ◌∙◌, subst, arith}
use Rattle.std.proofs.lemmas.List.Elements.{All-nil, All-cons}
use Rattle.std.proofs.lemmas.List.Sums.{count_by-le-length}
use Rattle.std.proofs.lemmas.Bool.Decides.{nat_tests}
use mathlib.Core.Option.{some, some-injective, some-ne-none}
use lib.ListN.{get_elem?}
use Rattle.atomic_table.specs.Table.{State, opening}
use Rattle.hist_lock.specs.declared.table.Held.{Held}
use Rattle.hist_lock.specs.declared.table.Part.{Part}
use Rattle.hist_lock.specs.declared.table.View.{View}
use Rattle.hist_lock.specs.declared.table.Stage.TheVariants.{Idle}
use Rattle.hist_lock.specs.Histories.{Legal, IsKept}
use Rattle.hist_lock.specs.Views.{enters, having, newcomer, no_part}
use Rattle.hist_lock.specs.Rule.{padding, below, Owns, Knows}
use Rattle.hist_lock.proofs.Counts.{sum-only, two_at_most_sum}
use Rattle.hist_lock.proofs.Keeps.{Rule}

below-first : (n : ℕ) → below n 1 ≡ cond (0 == n) 1 0
below-first n = grind (arith, nat_tests)

below-all : (n c : ℕ) → n < c → below n c ≡ 1
below-all n c h = grind (arith, nat_tests)

module _ {O E S T : Type 0} (state : O → S) (tag : O → T) (by : E → ℕ) (steps : S → E → S → Type 0) (start : O) where
  pub starts : (k : Held O E) → k.object ≡ start → k.log.items ≡ [] → Rule state tag by steps start (opening (0 ∷ padding) (k ∷ []) (newcomer start))
  starts k same empty = record {
    log = [];
    taken = 0;
    callers = 1;
    words = refl;
    inside = refl;
    one = omega arith;
    legal = (state start, refl);
    entries = All-nil (λ (e : E). by e < 1);
    whole = omega arith;
    numbers = λ n. let a = below-first n in omega arith;
    each = λ i v e. at_first i v e;
    home = λ _. (k, refl, (subst (λ (l : List E). Legal steps (state start) l (state k.object)) (sym empty) (ap state (sym same)), ap tag same), empty);
    away = λ z. absurd (omega arith);
  }
    where
      at_first : (i : ℕ) (v : View O E) → get_elem? (newcomer {O = O} {E = E} start ∷ []) i ≡ some v → Knows by start [] 1 v
      at_first zero v e = subst (Knows by start [] 1) (some-injective (newcomer start) v e) record {
        same = λ _. refl;
        hears = ([], refl);
        current = tt;
        heavy = omega arith;
        owns = All-cons (Owns by [] 1) no_part [] record { saw = ([], refl); own = refl; made = refl; first = λ _. refl } (All-nil (Owns by [] 1));
      }
      at_first (suc i) v e = absurd (some-ne-none v (sym e))

  -- what is known once one seat speaks for all callers
  pub record IsClosed (ps : List (Part E)) (k : Held O E) : Type 0 where
    pub kept : IsKept state tag steps start k.object k.log.items
    pub entries : All (λ e. by e < length ps) k.log.items
    pub owns : All (Owns by k.log.items (length ps)) ps
    pub once : (n : ℕ) → n < length ps → count_by (λ p. p.number == n) ps ≡ 1

  pub closes : (s : State (Held O E) (View O E)) (r : Rule state tag by steps start s) (id : ℕ) (p : Part E) (ps : List (Part E)) → let v : View O E = record { start = Some start; stage = Idle; told = []; parts = p ∷ ps } in
      get_elem? s.views id ≡ some v → p.number ≡ 0 → p.splits + 1 ≡ length (p ∷ ps) → (k : Held O E) × (s.homes ≡ some k ∷ []) × IsClosed (p ∷ ps) k
  closes s r id p ps at first all =
      let v : View O E = record { start = Some start; stage = Idle; told = []; parts = p ∷ ps } in let qs : List (Part E) = p ∷ ps in let know = r.each id v at in
      let count : length qs ≡ r.callers = sym all ∙ (know.owns 0 p (omega arith)).first first in
      let rest_empty : (j : ℕ) (x : View O E) → j ≢ id → get_elem? s.views j ≡ some x → length x.parts ≡ 0 = λ j x n e. omega (arith, two_at_most_sum (λ (x : View O E). length x.parts) s.views id j v x n at e, r.whole) in
      let none_inside : sum_by (λ (x : View O E). enters x.stage) s.views ≡ 0 =
      sum-only (λ (x : View O E). enters x.stage) s.views id v at (λ j x n e. let h = (r.each j x e).heavy in let z = rest_empty j x n e in omega arith) in
      let home = r.home (sym r.inside ∙ none_inside) in let k : Held O E = home.0 in (
        k,
        home.1,
        record {
          kept = home.2;
          entries = subst (λ (x : ℕ × List E). All (λ e. by e < x.0) x.1) (λ i. (sym count i, sym home.3 i)) r.entries;
          owns = subst (λ (x : ℕ × List E). All (Owns by x.1 x.0) qs) (λ i. (sym count i, sym home.3 i)) know.owns;
          once = λ n h. let c = below-all n r.callers (omega arith) in
              let o = sum-only (having n) s.views id v at (λ j x ne e. let z = rest_empty j x ne e in let g = count_by-le-length (λ (q : Part E). q.number == n) x.parts in omega arith) in sym o ∙ (r.numbers n ∙ c);
        },
      )
