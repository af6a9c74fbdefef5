-- Sums over the views, as one of them changes.
use Rattle.std.proofs.Common.{◌≡◌, ◌≢◌, ℕ, zero, suc, ◌+◌, ◌≤◌, List, [], ◌∷◌, ◌++◌, set, sum_by, sym, refl, ap, arith}
use Rattle.std.proofs.lemmas.List.Sums.{sum_by-cons, sum_by-append}
use mathlib.Core.Option.{some, some-injective, some-ne-none}
use lib.ListN.{get_elem?}

module _ {A : Type 0} (f : A → ℕ) where
  pub sum-set : (l : List A) (i : ℕ) (v w : A) → get_elem? l i ≡ some v → sum_by f (set l i w) + f v ≡ sum_by f l + f w
  sum-set [] i v w e = absurd (some-ne-none v (sym e))
  sum-set (x ∷ xs) zero v w e = let s : f x ≡ f v = ap f (some-injective x v e) in omega (arith, sum_by-cons f w xs, sum_by-cons f x xs)
  sum-set (x ∷ xs) (suc i) v w e = omega (arith, sum_by-cons f x (set xs i w), sum_by-cons f x xs, sum-set xs i v w e)

  pub sum-snoc : (l : List A) (v : A) → sum_by f (l ++ v ∷ []) ≡ sum_by f l + f v
  sum-snoc l v = omega (arith, sum_by-append f l (v ∷ []), sum_by-cons f v [])

  pub at_most_sum : (l : List A) (i : ℕ) (v : A) → get_elem? l i ≡ some v → f v ≤ sum_by f l
  at_most_sum [] i v e = absurd (some-ne-none v (sym e))
  at_most_sum (x ∷ xs) zero v e = let s : f x ≡ f v = ap f (some-injective x v e) in omega (arith, sum_by-cons f x xs)
  at_most_sum (x ∷ xs) (suc i) v e = omega (arith, sum_by-cons f x xs, at_most_sum xs i v e)

  pub two_at_most_sum : (l : List A) (i j : ℕ) (v w : A) → j ≢ i → get_elem? l i ≡ some v → get_elem? l j ≡ some w → f v + f w ≤ sum_by f l
  two_at_most_sum [] i j v w n e d = absurd (some-ne-none v (sym e))
  two_at_most_sum (x ∷ xs) zero zero v w n e d = absurd (n refl)
  two_at_most_sum (x ∷ xs) zero (suc j) v w n e d = let s : f x ≡ f v = ap f (some-injective x v e) in omega (arith, sum_by-cons f x xs, at_most_sum xs j w d)
  two_at_most_sum (x ∷ xs) (suc i) zero v w n e d = let s : f x ≡ f w = ap f (some-injective x w d) in omega (arith, sum_by-cons f x xs, at_most_sum xs i v e)
  two_at_most_sum (x ∷ xs) (suc i) (suc j) v w n e d = omega (arith, sum_by-cons f x xs, two_at_most_sum xs i j v w (λ s. n (ap suc s)) e d)
