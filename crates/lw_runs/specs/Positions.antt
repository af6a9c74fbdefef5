use Rattle.std.specs.Prelude.{ℕ, ◌+◌, ◌-◌, Bool, List, ◌++◌, map, length, take, drop, replicate, Option, Some, None, is_some, filter_map, slice_index_or}
use Rattle.std.specs.List.{list_any}

-- Octets by position: a list that has, at each position up to the last octet that is there, the octet, or None.

-- what stands at a position
abbrev pub octet_at : List (Option ℕ) → ℕ → Option ℕ
octet_at octets p = slice_index_or octets p None

-- n positions at which no octet is there
abbrev pub missing : ℕ → List (Option ℕ)
missing n = replicate n None

-- the octets of xs put in from a position on; what stands before them and behind them stays
abbrev pub with_octets : List (Option ℕ) → ℕ → List ℕ → List (Option ℕ)
with_octets octets from xs =
    take from octets ++ missing (from - length octets) ++ map Some xs ++ drop (from + length xs) octets

-- an octet is there at one of the n positions from `from` on
abbrev pub overlaps : List (Option ℕ) → ℕ → ℕ → Bool
overlaps octets from n = list_any is_some (take n (drop from octets))

-- the octets that are there, in their order
abbrev pub octets_in : List (Option ℕ) → List ℕ
octets_in octets = filter_map (λ o. o) octets
