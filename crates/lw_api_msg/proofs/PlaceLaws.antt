-- Elements of a list by their places, once one is put behind the others or in place of another.
use Rattle.std.proofs.Common.{◌≡◌, ◌≢◌, ℕ, zero, suc, ◌+◌, ◌-◌, ◌==◌, ◌<◌, ◌≤◌, ◌∙◌, if◌then◌else◌, Bool, true, false, List, [], ◌∷◌, ◌++◌, length, Option, Some, None, is_some, option_and_then, slice_get, slice_set, refl, sym, ap, ⊎_elim, arith}
use Rattle.std.proofs.lemmas.Bool.{cases_lt, eqb-false, eqb-true}
use Rattle.std.proofs.lemmas.Option.{slice_get_past}

above : (n l : ℕ) → (n ≡ 0 → ⊥) → n - 1 ≡ l → n ≡ l + 1
above n l some same = elim n as (λ m. (m ≡ 0 → ⊥) → m - 1 ≡ l → m ≡ l + 1) [
  | zero ↦ λ s e. absurd (s refl)
  | suc m ↦ λ s e. omega (arith, e)
] some same

no_zero : (l : ℕ) → (l + 1 == 0) ≡ true → ⊥
no_zero l e = let z = eqb-true (l + 1) 0 e in absurd (omega (arith, z))

less_same : (m n : ℕ) → 0 ≢ m → (n ≡ 0 → ⊥) → n - 1 ≡ m - 1 → n ≡ m
less_same zero n some here same = absurd (some refl)
less_same (suc m) zero some here same = absurd (here refl)
less_same (suc m) (suc n) some here same = omega (arith, same)

module _ {A : Type 0} where
  more_other : (xs : List A) (y : A) (i : ℕ) → i ≢ length xs → slice_get (xs ++ y ∷ []) i ≡ slice_get xs i
  more_other [] y zero other = absurd (other refl)
  more_other [] y (suc i) other = refl
  more_other (x ∷ xs) y zero other = refl
  more_other (x ∷ xs) y (suc i) other = more_other xs y i (λ e. other (omega (arith, e)))

  more_own : (xs : List A) (y : A) (i : ℕ) → i ≡ length xs → slice_get (xs ++ y ∷ []) i ≡ Some y
  more_own [] y zero own = refl
  more_own [] y (suc i) own = absurd (omega (arith, own))
  more_own (x ∷ xs) y zero own = absurd (omega (arith, own))
  more_own (x ∷ xs) y (suc i) own = more_own xs y i (omega (arith, own))

  set_other : (xs : List A) (i j : ℕ) (y : A) → j ≢ i → slice_get (slice_set xs i y) j ≡ slice_get xs j
  set_other [] i j y other = refl
  set_other (x ∷ xs) zero zero y other = absurd (other refl)
  set_other (x ∷ xs) zero (suc j) y other = refl
  set_other (x ∷ xs) (suc i) zero y other = refl
  set_other (x ∷ xs) (suc i) (suc j) y other = set_other xs i j y (λ e. other (omega (arith, e)))

-- of a list by numbers from 1 in which some places are empty
module _ {C : Type 0} where
  abbrev pub at : List (Option C) → ℕ → Option C
  at cs n = if n == 0 then None else option_and_then (λ c. c) (slice_get cs (n - 1))

  set_own : (cs : List (Option C)) (i : ℕ) → option_and_then (λ c. c) (slice_get (slice_set cs i None) i) ≡ None
  set_own [] i = refl
  set_own (c ∷ cs) zero = refl
  set_own (c ∷ cs) (suc i) = set_own cs i

  -- one more has the next number
  pub more_elsewhere : (cs : List (Option C)) (c : Option C) (n : ℕ) → n ≢ length cs + 1 → at (cs ++ c ∷ []) n ≡ at cs n
  more_elsewhere cs c n other =
      elim (n == 0) as (λ b. (n == 0) ≡ b → (if b then None else option_and_then (λ c. c) (slice_get (cs ++ c ∷ []) (n - 1))) ≡ (if b then None else option_and_then (λ c. c) (slice_get cs (n - 1)))) [
        | true ↦ λ _. refl
        | false ↦ λ e. let some = eqb-false n 0 e in ap (option_and_then (λ (c : Option C). c)) (more_other cs c (n - 1) (λ same. other (above n (length cs) some same)))
      ] refl

  pub more_here : (cs : List (Option C)) (c : C) → at (cs ++ Some c ∷ []) (length cs + 1) ≡ Some c
  more_here cs c =
      elim (length cs + 1 == 0) as (λ b. (length cs + 1 == 0) ≡ b → (if b then None else option_and_then (λ c. c) (slice_get (cs ++ Some c ∷ []) (length cs + 1 - 1))) ≡ Some c) [
        | true ↦ λ e. absurd (no_zero (length cs) e)
        | false ↦ λ e. ap (option_and_then (λ (c : Option C). c)) (more_own cs (Some c) (length cs + 1 - 1) (omega arith))
      ] refl

  -- one that is emptied is none, and the others stay
  pub less_elsewhere : (cs : List (Option C)) (m n : ℕ) → 0 ≢ m → n ≢ m → at (slice_set cs (m - 1) None) n ≡ at cs n
  less_elsewhere cs m n some other =
      elim (n == 0) as (λ b. (n == 0) ≡ b → (if b then None else option_and_then (λ c. c) (slice_get (slice_set cs (m - 1) None) (n - 1))) ≡ (if b then None else option_and_then (λ c. c) (slice_get cs (n - 1)))) [
        | true ↦ λ _. refl
        | false ↦ λ e. let here = eqb-false n 0 e in ap (option_and_then (λ (c : Option C). c)) (set_other cs (m - 1) (n - 1) None (λ same. other (less_same m n some here same)))
      ] refl

  pub less_here : (cs : List (Option C)) (m : ℕ) → at (slice_set cs (m - 1) None) m ≡ None
  less_here cs m =
      elim (m == 0) as (λ b. (if b then None else option_and_then (λ c. c) (slice_get (slice_set cs (m - 1) None) (m - 1))) ≡ None) [
        | true ↦ refl
        | false ↦ set_own cs (m - 1)
      ]

  -- one that is put in place of another is there, and the others stay
  pub put_elsewhere : (cs : List (Option C)) (m n : ℕ) (c : Option C) → 0 ≢ m → n ≢ m → at (slice_set cs (m - 1) c) n ≡ at cs n
  put_elsewhere cs m n c some other =
      elim (n == 0) as (λ b. (n == 0) ≡ b → (if b then None else option_and_then (λ c. c) (slice_get (slice_set cs (m - 1) c) (n - 1))) ≡ (if b then None else option_and_then (λ c. c) (slice_get cs (n - 1)))) [
        | true ↦ λ _. refl
        | false ↦ λ e. let here = eqb-false n 0 e in ap (option_and_then (λ (c : Option C). c)) (set_other cs (m - 1) (n - 1) c (λ same. other (less_same m n some here same)))
      ] refl

  there_set : (cs : List (Option C)) (i : ℕ) (c : Option C) → is_some (option_and_then (λ c. c) (slice_get cs i)) ≡ true → option_and_then (λ c. c) (slice_get (slice_set cs i c) i) ≡ c
  there_set [] i c there = absurd (let h = there in cc)
  there_set (x ∷ cs) zero c there = refl
  there_set (x ∷ cs) (suc i) c there = there_set cs i c there

  pub put_here : (cs : List (Option C)) (m : ℕ) (c : Option C) → is_some (at cs m) ≡ true → at (slice_set cs (m - 1) c) m ≡ c
  put_here cs m c there =
      elim (m == 0) as (λ b. is_some (if b then None else option_and_then (λ c. c) (slice_get cs (m - 1))) ≡ true → (if b then None else option_and_then (λ c. c) (slice_get (slice_set cs (m - 1) c) (m - 1))) ≡ c) [
        | true ↦ λ h. absurd (cc)
        | false ↦ λ h. there_set cs (m - 1) c h
      ] there

  -- what is there has a number
  pub numbered : (cs : List (Option C)) (m : ℕ) → is_some (at cs m) ≡ true → 0 ≢ m
  numbered cs zero there = absurd (let a = there in cc)
  numbered cs (suc m) there = λ e. absurd (omega (arith, e))

  -- past the numbers that were given there is none
  pub none_past : (cs : List (Option C)) (n : ℕ) → length cs < n → at cs n ≡ None
  none_past cs n past =
      elim (n == 0) as (λ b. (if b then None else option_and_then (λ c. c) (slice_get cs (n - 1))) ≡ None) [
        | true ↦ refl
        | false ↦ ap (option_and_then (λ (c : Option C). c)) (slice_get_past cs (n - 1) (omega (arith, past)))
      ]

  -- so the next number has none yet
  pub none_next : (cs : List (Option C)) (n : ℕ) → n ≡ length cs + 1 → at cs n ≡ None
  none_next cs n next = none_past cs n (omega (arith, next))

  -- what is there has a number that was given
  pub given : (cs : List (Option C)) (n : ℕ) → is_some (at cs n) ≡ true → n ≤ length cs
  given cs n there =
      ⊎_elim
      (λ (past : length cs < n). absurd (let none : false ≡ true = sym (ap is_some (none_past cs n past)) ∙ there in cc))
      (λ (within : n ≤ length cs). within)
      (cases_lt (length cs) n)

pub none_is : {A : Type 0} (o : Option A) → is_some o ≡ false → o ≡ None
none_is None none = refl
none_is (Some a) none = absurd (let h = none in cc)

-- the number of the next connection is one more than how many were made
pub next_is : {C : Type 0} (b : Bool) (cs : List C) (n : ℕ) → (if b then Some (length cs + 1) else None) ≡ Some n → n ≡ length cs + 1
next_is true cs n next = cc
next_is false cs n next = absurd (cc)
