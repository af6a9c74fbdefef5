-- Sums over a list, as one element changes, and where one element has all.
use Rattle.std.proofs.Common.{◌≡◌, ℕ, zero, suc, ◌+◌, ◌≤◌, List, [], ◌∷◌, set, sum_by, sym, refl, ap, arith}
use Rattle.std.proofs.lemmas.List.Sums.{sum_by-cons}
use mathlib.Core.Option.{some, some-injective, some-ne-none}
use lib.ListN.{get_elem?}

module _ {A : Type 0} (f : A → ℕ) where
  pub sum-set : (l : List A) (i : ℕ) (v w : A) → get_elem? l i ≡ some v → sum_by f (set l i w) + f v ≡ sum_by f l + f w
  sum-set [] i v w e = absurd (some-ne-none v (sym e))
  sum-set (x ∷ xs) zero v w e = let s : f x ≡ f v = ap f (some-injective x v e) in omega (arith, sum_by-cons f w xs, sum_by-cons f x xs)
  sum-set (x ∷ xs) (suc i) v w e = omega (arith, sum_by-cons f x (set xs i w), sum_by-cons f x xs, sum-set xs i v w e)

  pub at_most_sum : (l : List A) (i : ℕ) (v : A) → get_elem? l i ≡ some v → f v ≤ sum_by f l
  at_most_sum [] i v e = absurd (some-ne-none v (sym e))
  at_most_sum (x ∷ xs) zero v e = let s : f x ≡ f v = ap f (some-injective x v e) in omega (arith, sum_by-cons f x xs)
  at_most_sum (x ∷ xs) (suc i) v e = omega (arith, sum_by-cons f x xs, at_most_sum xs i v e)

-- where a sum of p is that of one element, and an element with no p has no f, the sum of f is that element's too
module _ {A : Type 0} (p f : A → ℕ) where
  pub sum-none : (l : List A) → sum_by p l ≡ 0 → ((j : ℕ) (u : A) → get_elem? l j ≡ some u → p u ≡ 0 → f u ≡ 0) → sum_by f l ≡ 0
  sum-none [] e h = refl
  sum-none (x ∷ xs) e h = let s = sum_by-cons p x xs in let a : p x ≡ 0 = omega arith in let b : sum_by p xs ≡ 0 = omega arith in
      omega (arith, sum_by-cons f x xs, h 0 x refl a, sum-none xs b (λ j. h (suc j)))

  pub sum-one : (l : List A) (i : ℕ) (v : A) → get_elem? l i ≡ some v → sum_by p l ≡ p v → ((j : ℕ) (u : A) → get_elem? l j ≡ some u → p u ≡ 0 → f u ≡ 0) → sum_by f l ≡ f v
  sum-one [] i v e t h = absurd (some-ne-none v (sym e))
  sum-one (x ∷ xs) zero v e t h = let a : p x ≡ p v = ap p (some-injective x v e) in let b : f x ≡ f v = ap f (some-injective x v e) in let s = sum_by-cons p x xs in let c : sum_by p xs ≡ 0 = omega arith in
      omega (arith, sum_by-cons f x xs, sum-none xs c (λ j. h (suc j)))
  sum-one (x ∷ xs) (suc i) v e t h = let s = sum_by-cons p x xs in let m = at_most_sum p xs i v e in let a : p x ≡ 0 = omega arith in let b : sum_by p xs ≡ p v = omega arith in
      omega (arith, sum_by-cons f x xs, h 0 x refl a, sum-one xs i v e b (λ j. h (suc j)))

module _ {A : Type 0} (f g : A → ℕ) where
  pub sum-le : (l : List A) → ((u : A) → f u ≤ g u) → sum_by f l ≤ sum_by g l
  sum-le [] h = omega arith
  sum-le (x ∷ xs) h = omega (arith, sum_by-cons f x xs, sum_by-cons g x xs, h x, sum-le xs h)
