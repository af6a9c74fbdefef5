use Rattle.std.proofs.Common.{ℕ, ◌+◌, ◌<◌, ◌≤◌, List, length, get_or, take, cond, eqb, eq-eqb, refl, arith}
use Rattle.std.proofs.lemmas.List.Sums.{count_by_more_yes, sum_by-take-le}
use Rattle.std.proofs.lemmas.List.{get_or_past}
use Rattle.lw_payload.specs.Fake.{times}

-- a place that is read stands once more in the list than before its reading
pub times-take_here : (places : List ℕ) (i : ℕ) → i < length places → times (get_or places i 0) (take i places) + 1 ≤ times (get_or places i 0) places
times-take_here places i within =
    let x = get_or places i 0 in
    let more = count_by_more_yes (λ p. eqb p x) places i 0 within (eq-eqb x x refl) in
    let less = sum_by-take-le (λ p. cond {A = ℕ} (eqb p x) 1 0) places (i + 1) in
    omega arith

-- a place that has a count stands among the counts
pub place_within : (counts : List ℕ) (place : ℕ) → 0 < get_or counts place 0 → place < length counts
place_within counts place some = let past = get_or_past counts place 0 in grind arith
