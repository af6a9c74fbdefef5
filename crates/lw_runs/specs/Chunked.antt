use Rattle.std.specs.Prelude.{◌≡◌, ℕ, ◌+◌, ◌-◌, ◌<◌, ◌≤◌, min, Bool, true, nat_lt, nat_le, List, [], ◌∷◌, length, take, flat_map, Option, Some, None, IfSome, slice_index_or}
use Rattle.std.specs.List.{All, position_or_len}
use Rattle.lw_runs.specs.declared.run.Run.{Run}

-- what is kept in chunks: the runs in the order of their positions, and for how many more there is room
pub record Chunked (P : Type 0) : Type 0 where
  pub runs : List (Run P)
  pub room : ℕ

-- chunks one behind another
abbrev pub flat : {A : Type 0} → List (List A) → List A
flat chunks = flat_map (λ chunk. chunk) chunks

-- one more run has room where there is a spare chunk, and a place for it among the chunks
abbrev pub room_of : {V : Type 0} → Option V → ℕ → ℕ → ℕ
room_of None n capacity = 0
room_of (Some spare) n capacity = min 1 (capacity - n)

-- a chunk of n runs has one at least, no more than 32, and room for 32
pub record IsChunk (n capacity : ℕ) : Type 0 where
  pub some : 0 < n
  pub few : n ≤ 32
  pub room : 32 ≤ capacity

-- what holds of the fields of `Chunks`, from how many runs stand in one chunk and for how many it has room
pub record AreChunks {V : Type 0} (number capacity : V → ℕ) (chunks : List V) (spare : Option V) : Type 0 where
  pub each : All (λ v. IsChunk (number v) (capacity v)) chunks
  pub spare_one : IfSome spare (λ v. (number v ≡ 0) × (32 ≤ capacity v))

-- the first of runs begins at a position or before it
abbrev pub begins_by : {P : Type 0} → ℕ → List (Run P) → Bool
begins_by from [] = true
begins_by from (r ∷ rs) = nat_le r.at from

-- where one more run that begins at `from` goes: the chunk, and the place in it; a first place only in the first chunk; of all runs
-- together, it is the place before the first that begins behind
pub record IsPlace {P : Type 0} (from : ℕ) (chunks : List (List (Run P))) (chunk at : ℕ) : Type 0 where
  pub chunk_within : chunk < length chunks
  pub at_within : at ≤ length (slice_index_or chunks chunk [])
  pub first : at ≡ 0 → chunk ≡ 0
  pub value : length (flat (take chunk chunks)) + at ≡ position_or_len (λ r. nat_lt from r.at) (flat chunks)
