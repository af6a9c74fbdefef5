use Rattle.std.proofs.Common.{◌≡◌, ℕ, ◌+◌, ◌<◌, ◌≤◌, suc, Bool, true, false, not, ◌||◌, cond, List, [], ◌∷◌, length, get_or, take, drop, Some, None, refl, ap, ◌∙◌, arith, ltb, All, Contains, find, position}
use Rattle.std.specs.List.{list_any, position_or_len, remove}
use Rattle.std.proofs.lemmas.Bool.Decides.{nat_tests}
use Rattle.std.proofs.lemmas.List.Elements.{All-nil, All-cons, All-append, All-take, All-drop}
use Rattle.std.proofs.lemmas.List.Folds.{find_at, list_any_at}
use Rattle.std.proofs.lemmas.Option.{slice_get_past, slice_get_read, cond_some}

or_parts : (a b : Bool) → (a || b) ≡ false → (a ≡ false) × (b ≡ false)
or_parts true b h = absurd (cc)
or_parts false b h = (refl, h)

-- a list passes where one of its elements does
pub one_passes : {X : Type 0} (p : X → Bool) (xs : List X) (x : X) → Contains xs x → p x ≡ true → list_any p xs ≡ true
one_passes p xs x at passes = list_any_at p xs at.0 x at.1 (ap p at.2 ∙ passes)

-- the first place that passes is within a list where one passes
pub first_within : {X : Type 0} (p : X → Bool) (xs : List X) → list_any p xs ≡ true → position_or_len p xs < length xs
first_within p [] any = absurd (cc)
first_within p (x ∷ xs) any =
    elim (p x) as (λ b. (b || list_any p xs) ≡ true → cond (not b) (1 + position_or_len p xs) 0 < suc (length xs)) [
      | true ↦ λ _. omega arith
      | false ↦ λ h. let rest = first_within p xs h in omega arith
    ] any

-- where no place passes, none of the elements does
pub none_passes : {X : Type 0} (p : X → Bool) (xs : List X) → position p xs ≡ None → list_any p xs ≡ false
none_passes p xs none =
    elim (list_any p xs) as (λ b. list_any p xs ≡ b → b ≡ false) [
      | true ↦ λ e. let within = first_within p xs e in grind (arith, nat_tests)
      | false ↦ λ _. refl
    ] refl

-- a test finds none where another that it implies finds none
pub none_of_fewer : {X : Type 0} (p q : X → Bool) (xs : List X) → ((x : X) → p x ≡ false → q x ≡ false) → list_any p xs ≡ false → list_any q xs ≡ false
none_of_fewer p q [] fewer none = refl
none_of_fewer p q (x ∷ xs) fewer none =
    let parts = or_parts (p x) (list_any p xs) none in
    rw (fewer x parts.0, none_of_fewer p q xs fewer parts.1) refl

-- each element fails a test that none passes
pub all_fail : {X : Type 0} (p : X → Bool) (xs : List X) → list_any p xs ≡ false → All (λ x. p x ≡ false) xs
all_fail p [] none = All-nil (λ x. p x ≡ false)
all_fail p (x ∷ xs) none =
    let parts = or_parts (p x) (list_any p xs) none in
    All-cons (λ z. p z ≡ false) x xs parts.0 (all_fail p xs parts.1)

-- what is found where no place passes
pub find_none : {X : Type 0} (p : X → Bool) (xs : List X) → position p xs ≡ None → find p xs ≡ None
find_none p xs none =
    let past : length xs ≤ position_or_len p xs = grind (arith, nat_tests) in
    find_at p xs ∙ slice_get_past xs (position_or_len p xs) past

-- what is found is the element at the first place that passes
pub find_some : {X : Type 0} (p : X → Bool) (xs : List X) (i : ℕ) (x : X) → position p xs ≡ Some i → i < length xs → x ≡ get_or xs i x → find p xs ≡ Some x
find_some p xs i x at within read =
    let place = cond_some (ltb (position_or_len p xs) (length xs)) (position_or_len p xs) i at in
    find_at p xs ∙ rw place.1 (slice_get_read xs (length xs) i x refl within read)

-- where nothing is found, each element fails the test
pub not_found : {X : Type 0} (p : X → Bool) (xs : List X) → find p xs ≡ None → list_any p xs ≡ false
not_found p [] none = refl
not_found p (x ∷ xs) none =
    elim (p x) as (λ b. cond b (Some x) (find p xs) ≡ None → (b || list_any p xs) ≡ false) [
      | true ↦ λ h. absurd (cc)
      | false ↦ λ h. not_found p xs h
    ] none

-- what holds of each element holds of each that is left
pub All-remove : {X : Type 0} (P : X → Type 0) (xs : List X) (i : ℕ) → All P xs → All P (remove xs i)
All-remove P xs i all = All-append P (take i xs) (drop (suc i) xs) (All-take P i xs all) (All-drop P (suc i) xs all)

-- a place that was found is in the list
pub within_list : {X : Type 0} (p : X → Bool) (xs : List X) (i : ℕ) → position p xs ≡ Some i → i < length xs
within_list p xs i some =
    let place = cond_some (ltb (position_or_len p xs) (length xs)) (position_or_len p xs) i some in
    let test = place.0 in
    let same = place.1 in
    grind (arith, nat_tests)
