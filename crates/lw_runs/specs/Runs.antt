use Rattle.std.specs.Prelude.{◌≡◌, ℕ, ◌+◌, ◌-◌, ◌^◌, ◌<◌, ◌≤◌, List, [], ◌∷◌, ◌++◌, map, length, Option, Some}
use Rattle.std.specs.List.{All}
use Rattle.lw_payload.specs.Views.{View}
use Rattle.lw_runs.specs.Positions.{missing, octets_in}
use Rattle.lw_runs.specs.Kept.{parts_of}
use Rattle.lw_runs.specs.declared.run.Run.{Run}

-- the payloads of runs
abbrev pub bodies_of : {P : Type 0} → List (Run P) → List P
bodies_of runs = map (λ r. r.body) runs

-- the octets of runs by position, from position a on
abbrev pub spread : {P : Type 0} → (P → View) → ℕ → List (Run P) → List (Option ℕ)
spread seen a [] = []
spread seen a (r ∷ rs) = missing (r.at - a) ++ map Some (seen r.body).octets ++ spread seen r.end rs

-- each run has octets and begins where the one before ended, or behind; the first at a, or behind
abbrev pub InOrder : {P : Type 0} → (P → View) → ℕ → List (Run P) → Type 0
InOrder seen a [] = Unit {0}
InOrder seen a (r ∷ rs) =
    (a ≤ r.at) × (r.at < r.end) × (r.end ≡ r.at + length (seen r.body).octets) × InOrder seen r.end rs

-- what holds of the fields of `Runs`: how far the runs reach, how many octets and parts they have, and how many they are
pub record AreRuns {P : Type 0} (seen : P → View) (runs : List (Run P)) (end octets parts number : ℕ) : Type 0 where
  pub order : InOrder seen 0 runs
  pub reach : end ≡ length (spread seen 0 runs)
  pub count : octets ≡ length (octets_in (spread seen 0 runs))
  pub all_parts : parts ≡ parts_of seen (bodies_of runs)
  pub few : parts ≤ octets
  pub short : end < 2 ^ 32
  pub family : (f : List ℕ) × All (λ p. (seen p).family ≡ f) (bodies_of runs)
  pub all_runs : number ≡ length runs
