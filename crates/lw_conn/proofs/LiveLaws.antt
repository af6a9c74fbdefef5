-- How many connections are live, once one is changed.
use Rattle.std.proofs.Common.{◌≡◌, ℕ, zero, suc, ◌+◌, if◌then◌else◌, cond, IsTrue, Bool, true, false, List, [], ◌∷◌, Option, Some, None, is_some, option_and_then, count_by, slice_get, slice_set, arith}
use Rattle.std.proofs.lemmas.List.Sums.{sum_by-cons}

module _ {C : Type 0} where
  -- a live one becomes this
  pub live_set : (cs : List (Option C)) (i : ℕ) (after : Option C) → is_some (option_and_then (λ c. c) (slice_get cs i)) ≡ true
      → count_by is_some (slice_set cs i after) + 1 ≡ count_by is_some cs + cond (is_some after) 1 0
  live_set [] i after there = absurd (let a = there in cc)
  live_set (Some c ∷ cs) zero after there = omega (arith, sum_by-cons (λ (x : Option C). cond (is_some x) 1 0) after cs, sum_by-cons (λ (x : Option C). cond (is_some x) 1 0) (Some c) cs)
  live_set (None ∷ cs) zero after there = absurd (let a = there in cc)
  live_set (x ∷ cs) (suc i) after there =
      omega (arith, sum_by-cons (λ (x : Option C). cond (is_some x) 1 0) x (slice_set cs i after), sum_by-cons (λ (x : Option C). cond (is_some x) 1 0) x cs, live_set cs i after there)

  -- what is there under a condition is there
  pub stands : (b : Bool) (o : Option C) → IsTrue (is_some (if b then None else o)) → is_some o ≡ true
  stands true o there = absurd (let a = there in cc)
  stands false o there = let a = there in cc
