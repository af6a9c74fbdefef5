-- Totals over the views of all seats.
use Rattle.std.proofs.Common.{◌≡◌, ◌≢◌, ℕ, zero, suc, ◌+◌, ◌≤◌, List, [], ◌∷◌, ◌++◌, set, sym, refl, ap, arith}
use mathlib.Core.Option.{some, some-injective, some-ne-none}
use lib.ListN.{get_elem?}
use Rattle.lw_mbox.specs.declared.view.View.{View}
use Rattle.lw_mbox.specs.Rule.{total}

module _ {T K : Type 0} where
  pub total_set : (f : View T K → ℕ) (vs : List (View T K)) (i : ℕ) (v w : View T K) → get_elem? vs i ≡ some v → total f (set vs i w) + f v ≡ total f vs + f w
  total_set f [] i v w e = absurd (some-ne-none v (sym e))
  total_set f (x ∷ xs) zero v w e = let h = ap f (some-injective x v e) in omega arith
  total_set f (x ∷ xs) (suc i) v w e = let h = total_set f xs i v w e in omega arith

  pub total_push : (f : View T K → ℕ) (vs : List (View T K)) (v : View T K) → total f (vs ++ v ∷ []) ≡ total f vs + f v
  total_push f [] v = omega arith
  total_push f (x ∷ xs) v = let h = total_push f xs v in omega arith

  pub total_at : (f : View T K → ℕ) (vs : List (View T K)) (i : ℕ) (v : View T K) → get_elem? vs i ≡ some v → f v ≤ total f vs
  total_at f [] i v e = absurd (some-ne-none v (sym e))
  total_at f (x ∷ xs) zero v e = let h = ap f (some-injective x v e) in omega arith
  total_at f (x ∷ xs) (suc i) v e = let h = total_at f xs i v e in omega arith

  pub total_two : (f : View T K → ℕ) (vs : List (View T K)) (i j : ℕ) (v w : View T K) → i ≢ j → get_elem? vs i ≡ some v → get_elem? vs j ≡ some w → f v + f w ≤ total f vs
  total_two f [] i j v w n e g = absurd (some-ne-none v (sym e))
  total_two f (x ∷ xs) zero zero v w n e g = absurd (n refl)
  total_two f (x ∷ xs) zero (suc j) v w n e g = let h = ap f (some-injective x v e) in let t = total_at f xs j w g in omega arith
  total_two f (x ∷ xs) (suc i) zero v w n e g = let h = ap f (some-injective x w g) in let t = total_at f xs i v e in omega arith
  total_two f (x ∷ xs) (suc i) (suc j) v w n e g = let t = total_two f xs i j v w (λ p. n (ap suc p)) e g in omega arith

  none_left : (p f : View T K → ℕ) (vs : List (View T K)) → total p vs ≡ 0 → ((j : ℕ) (u : View T K) → get_elem? vs j ≡ some u → p u ≡ 0 → f u ≡ 0) → total f vs ≡ 0
  none_left p f [] e h = refl
  none_left p f (x ∷ xs) e h = let a : total p xs ≡ 0 = omega arith in let b : p x ≡ 0 = omega arith in let c = h 0 x refl b in let d = none_left p f xs a (λ j. h (suc j)) in omega arith

  -- where one view has all of p, and a view without p has no f, it has all of f
  pub total_one : (p f : View T K → ℕ) (vs : List (View T K)) (i : ℕ) (v : View T K) → get_elem? vs i ≡ some v → total p vs ≡ p v
      → ((j : ℕ) (u : View T K) → get_elem? vs j ≡ some u → p u ≡ 0 → f u ≡ 0) → total f vs ≡ f v
  total_one p f [] i v e t h = absurd (some-ne-none v (sym e))
  total_one p f (x ∷ xs) zero v e t h = let a = ap p (some-injective x v e) in let b = ap f (some-injective x v e) in let c : total p xs ≡ 0 = omega arith in
      let d = none_left p f xs c (λ j. h (suc j)) in omega arith
  total_one p f (x ∷ xs) (suc i) v e t h = let a = total_at p xs i v e in let b : p x ≡ 0 = omega arith in let c : total p xs ≡ p v = omega arith in let d = h 0 x refl b in
      let r = total_one p f xs i v e c (λ j. h (suc j)) in omega arith
