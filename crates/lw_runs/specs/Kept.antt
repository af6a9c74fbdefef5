use Rattle.std.specs.Prelude.{◌≡◌, ℕ, ◌+◌, ◌^◌, ◌<◌, ◌≤◌, List, [], ◌∷◌, ◌++◌, map, length, Option, Some}
use Rattle.std.specs.List.{All, AllZip, sum_by}
use Rattle.lw_payload.specs.Views.{Slot, View}
use Rattle.lw_payload.specs.Calls.{IsSameButRoom}
use Rattle.lw_payload.specs.Lists.{rows_of, weight_of}
use Rattle.lw_payload.specs.Totals.{stranger}
use Rattle.lw_runs.specs.Positions.{missing}

-- what is kept by position: the octets; the payloads in which they stand, in the order of their places; and for how many more payloads there
-- is room
pub record Kept (P : Type 0) : Type 0 where
  pub octets : List (Option ℕ)
  pub bodies : List P
  pub room : ℕ

-- payloads stand in octets by position: each as one run of its own octets, of which none is empty, in this order, with no octet between
-- them and behind the last
abbrev pub Stand : {P : Type 0} → (P → View) → List (Option ℕ) → List P → Type 0
Stand seen octets [] = octets ≡ []
Stand seen octets (p ∷ ps) =
    (gap : ℕ) × (rest : List (Option ℕ)) × (octets ≡ missing gap ++ map Some (seen p).octets ++ rest) × (0 < length (seen p).octets)
    × Stand seen rest ps

-- nothing of payloads changed but their room
abbrev pub AreSameButRoom : {P : Type 0} → (P → View) → List P → List P → Type 0
AreSameButRoom seen before after = AllZip (λ p q. IsSameButRoom (seen p) (seen q)) before after

-- how many parts payloads have together
abbrev pub parts_of : {P : Type 0} → (P → View) → List P → ℕ
parts_of seen ps = sum_by (λ p. (seen p).parts) ps

-- how many octets they have together
abbrev pub length_of : {P : Type 0} → (P → View) → List P → ℕ
length_of seen ps = sum_by (λ p. length (seen p).octets) ps

-- the payloads `after` hold what those of `before` held: together the same number of octets and parts, the same rows and the same weight;
-- no more of them are strangers to a family; they are of a family where those were, and short where those were
pub record Holds {P : Type 0} (seen : P → View) (before after : List P) : Type 0 where
  pub octets : length_of seen after ≡ length_of seen before
  pub parts : parts_of seen after ≡ parts_of seen before
  pub rows : (s : Slot) → rows_of seen after s ≡ rows_of seen before s
  pub weight : weight_of seen after ≡ weight_of seen before
  pub strangers : (f : List ℕ) → sum_by (λ p. stranger f (seen p)) after ≤ sum_by (λ p. stranger f (seen p)) before
  pub family : (f : List ℕ) → All (λ p. (seen p).family ≡ f) before → All (λ p. (seen p).family ≡ f) after
  pub short : All (λ p. length (seen p).octets < 2 ^ 32) before → All (λ p. length (seen p).octets < 2 ^ 32) after

-- the first of payloads has room for the parts of all others and for so many more
abbrev pub FirstCanTake : {P : Type 0} → (P → View) → List P → ℕ → Type 0
FirstCanTake seen [] n = Unit {0}
FirstCanTake seen (p ∷ ps) n = parts_of seen ps + n ≤ (seen p).room

-- payloads and one more can be joined, whichever of them stands first
abbrev pub CanJoin : {P : Type 0} → (P → View) → List P → View → Type 0
CanJoin seen ps body = FirstCanTake seen ps body.parts × (parts_of seen ps ≤ body.room)
