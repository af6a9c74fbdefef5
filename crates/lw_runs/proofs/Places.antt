use Rattle.std.proofs.Common.{◌≡◌, ℕ, ◌+◌, ◌<◌, ◌≤◌, Bool, true, false, cond, nat_lt, List, [], ◌∷◌, length, not, refl, arith, inl, inr}
use Rattle.std.specs.Option.{unwrap_or}
use Rattle.std.specs.List.{position, position_or_len}
use Rattle.std.proofs.lemmas.Bool.{cases_lt}
use Rattle.std.proofs.lemmas.Bool.Decides.{nat_tests}

-- no place is behind the end
pub place-le : {X : Type 0} (p : X → Bool) (xs : List X) → position_or_len p xs ≤ length xs
place-le p [] = omega arith
place-le p (x ∷ xs) = place_step (p x) (position_or_len p xs) (place-le p xs)
  where
    place_step : (b : Bool) (n : ℕ) → n ≤ length xs → cond (not b) (1 + n) 0 ≤ length (x ∷ xs)
    place_step true n h = omega arith
    place_step false n h = omega arith

less : (m n : ℕ) → m < n → nat_lt m n ≡ true
less m n h = grind (arith, nat_tests)

not_less : (m n : ℕ) → n ≤ m → nat_lt m n ≡ false
not_less m n h = grind (arith, nat_tests)

-- the first place that passes, or the end
pub place_or_end : {X : Type 0} (p : X → Bool) (xs : List X) → unwrap_or (position p xs) (length xs) ≡ position_or_len p xs
place_or_end p xs =
    let most = place-le p xs in
    elim (cases_lt (position_or_len p xs) (length xs)) [
      | inl lt ↦ rw (less (position_or_len p xs) (length xs) lt) refl
      | inr ge ↦ rw (not_less (position_or_len p xs) (length xs) ge) (omega arith)
    ]
