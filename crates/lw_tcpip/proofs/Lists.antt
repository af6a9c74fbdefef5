-- Lists read and written at a place, and beginnings of lists.
use Rattle.std.proofs.Common.{◌≡◌, ◌≢◌, ◌⊎◌, inl, inr, ℕ, zero, suc, ◌+◌, ◌<◌, ◌≤◌, List, [], ◌∷◌, ◌++◌, length, Option, Some, None, slice_get, slice_set, refl, ap, sym, ◌∙◌, subst, cond, count_by, ◌||◌, Bool, true, false, arith, append_assoc}
use Rattle.std.specs.List.{list_any}
use Rattle.std.proofs.lemmas.List.Sums.{sum_by-cons, sum_by-append}
use Rattle.std.proofs.lemmas.List.Folds.{list_any-append}
use mathlib.Core.List.{IsPrefix}

pub or-false : (b : Bool) → (b || false) ≡ b
or-false true = refl
or-false false = refl

pub not_both : false ≡ true → ⊥
not_both e = cc

or_left : (a b : Bool) → (a || b) ≡ false → a ≡ false
or_left true b e = e
or_left false b e = refl

or_right : (a b : Bool) → (a || b) ≡ false → b ≡ false
or_right true b e = absurd (not_both (sym e))
or_right false b e = e

module _ {X : Type 0} where
  pub some_same : (x y : X) → Some x ≡ Some y → x ≡ y
  some_same x y e = cc

  no_some : (y : X) → None ≡ Some y → ⊥
  no_some y e = cc

  -- what stands in a list with one element more
  pub get_push : (xs : List X) (x y : X) (i : ℕ) → slice_get (xs ++ x ∷ []) i ≡ Some y → (slice_get xs i ≡ Some y) ⊎ ((i ≡ length xs) × (x ≡ y))
  get_push [] x y zero e = inr (refl, some_same x y e)
  get_push [] x y (suc i) e = absurd (no_some y e)
  get_push (z ∷ xs) x y zero e = inl e
  get_push (z ∷ xs) x y (suc i) e = elim (get_push xs x y i e) [ inl p ↦ inl p | inr q ↦ inr (let at = q.0 in omega arith, q.1) ]

  -- what stands in a list that was written at a place: there what was written
  pub get_set_same : (xs : List X) (a b : X) (i : ℕ) → slice_get (slice_set xs i a) i ≡ Some b → a ≡ b
  get_set_same [] a b i e = absurd (no_some b e)
  get_set_same (x ∷ xs) a b zero e = some_same a b e
  get_set_same (x ∷ xs) a b (suc i) e = get_set_same xs a b i e

  -- and elsewhere what stood there before
  pub get_set_other : (xs : List X) (a b : X) (i j : ℕ) → j ≢ i → slice_get (slice_set xs i a) j ≡ Some b → slice_get xs j ≡ Some b
  get_set_other [] a b i j other e = e
  get_set_other (x ∷ xs) a b zero zero other e = absurd (other refl)
  get_set_other (x ∷ xs) a b zero (suc j) other e = e
  get_set_other (x ∷ xs) a b (suc i) zero other e = e
  get_set_other (x ∷ xs) a b (suc i) (suc j) other e = get_set_other xs a b i j (λ s. other (ap suc s)) e

  -- a place within the list has an element
  pub get_within : (xs : List X) (i : ℕ) → i < length xs → (x : X) × (slice_get xs i ≡ Some x)
  get_within [] i h = absurd (omega arith)
  get_within (x ∷ xs) zero h = (x, refl)
  get_within (x ∷ xs) (suc i) h = get_within xs i (omega arith)

  head_same : (x y : X) (xs ys : List X) → x ∷ xs ≡ y ∷ ys → x ≡ y
  head_same x y xs ys e = cc

  tail_same : (x y : X) (xs ys : List X) → x ∷ xs ≡ y ∷ ys → xs ≡ ys
  tail_same x y xs ys e = cc

  no_cons : (x : X) (xs : List X) → x ∷ xs ≡ [] → ⊥
  no_cons x xs e = cc

  front_nil : (xs rest : List X) → xs ++ rest ≡ [] → xs ≡ []
  front_nil [] rest e = refl
  front_nil (x ∷ xs) rest e = absurd (no_cons x (xs ++ rest) e)

  snoc_some : (xs : List X) (x : X) (rest : List X) → (xs ++ x ∷ []) ++ rest ≡ [] → ⊥
  snoc_some [] x rest e = no_cons x rest e
  snoc_some (y ∷ xs) x rest e = no_cons y _ e

  pub count_by-cons : (p : X → Bool) (x : X) (xs : List X) → count_by p (x ∷ xs) ≡ cond (p x) 1 0 + count_by p xs
  count_by-cons p x xs = sum_by-cons (λ y. cond (p y) 1 0) x xs

  pub count_by-snoc : (p : X → Bool) (xs : List X) (x : X) → count_by p (xs ++ x ∷ []) ≡ count_by p xs + cond (p x) 1 0
  count_by-snoc p xs x = let a = sum_by-append (λ y. cond (p y) 1 0) xs (x ∷ []) in let b = count_by-cons p x [] in let none : count_by p [] ≡ 0 = refl in omega arith

  -- A list ends with x, which passes the test, and is a beginning of another that ends with y. If as many pass before x as before y, the two are one
  pub same_end : (p : X → Bool) (xs ys : List X) (x y : X) (rest : List X) → p x ≡ true → count_by p xs ≡ count_by p ys → (xs ++ x ∷ []) ++ rest ≡ ys ++ y ∷ [] → (xs ≡ ys) × (x ≡ y)
  same_end p [] [] x y rest is same e = (refl, head_same x y rest [] e)
  same_end p [] (z ∷ ys) x y rest is same e = let first : x ≡ z = head_same x z rest (ys ++ y ∷ []) e in
      let c = count_by-cons p z ys in let one : ◌≡◌ {A = ℕ} (cond (p z) 1 0) 1 = ap (λ (w : X). let k : ℕ = cond (p w) 1 0 in k) (sym first) ∙ ap (λ (b : Bool). let k : ℕ = cond b 1 0 in k) is in
      let none : count_by p [] ≡ 0 = refl in absurd (omega arith)
  same_end p (w ∷ xs) [] x y rest is same e = absurd (snoc_some xs x rest (tail_same w y ((xs ++ x ∷ []) ++ rest) [] e))
  same_end p (w ∷ xs) (z ∷ ys) x y rest is same e = let first : w ≡ z = head_same w z ((xs ++ x ∷ []) ++ rest) (ys ++ y ∷ []) e in
      let one : ◌≡◌ {A = ℕ} (cond (p w) 1 0) (cond (p z) 1 0) = ap (λ (v : X). let k : ℕ = cond (p v) 1 0 in k) first in
      let c = count_by-cons p w xs in let d = count_by-cons p z ys in
      let later = same_end p xs ys x y rest is (omega arith) (tail_same w z ((xs ++ x ∷ []) ++ rest) (ys ++ y ∷ []) e) in
      (λ i. first i ∷ later.0 i, later.1)

  pub any-snoc : (p : X → Bool) (xs : List X) (x : X) → list_any p (xs ++ x ∷ []) ≡ (list_any p xs || p x)
  any-snoc p xs x = list_any-append p xs (x ∷ []) ∙ ap (λ (b : Bool). list_any p xs || b) (or-false (p x))

  -- where none passes the test before the last element, a beginning in which one passes is the whole
  pub whole_by : (p : X → Bool) (xs ys : List X) (y : X) (rest : List X) → list_any p xs ≡ true → list_any p ys ≡ false → xs ++ rest ≡ ys ++ y ∷ [] → xs ≡ ys ++ y ∷ []
  whole_by p [] ys y rest any none e = absurd (not_both any)
  whole_by p (x ∷ xs) [] y rest any none e = let end : xs ≡ [] = front_nil xs rest (tail_same x y (xs ++ rest) [] e) in
      λ i. head_same x y (xs ++ rest) [] e i ∷ end i
  whole_by p (x ∷ xs) (z ∷ ys) y rest any none e = let first : x ≡ z = head_same x z (xs ++ rest) (ys ++ y ∷ []) e in
      let here : p x ≡ false = ap p first ∙ or_left (p z) (list_any p ys) none in
      let later : list_any p xs ≡ true = sym (ap (λ (b : Bool). b || list_any p xs) here) ∙ any in
      let same = whole_by p xs ys y rest later (or_right (p z) (list_any p ys) none) (tail_same x z (xs ++ rest) (ys ++ y ∷ []) e) in
      λ i. first i ∷ same i

  pub prefix_trans : (xs ys zs : List X) → IsPrefix xs ys → IsPrefix ys zs → IsPrefix xs zs
  prefix_trans xs ys zs p q = (p.0 ++ q.0, sym (append_assoc xs p.0 q.0) ∙ (ap (λ (l : List X). l ++ q.0) p.1 ∙ q.1))
