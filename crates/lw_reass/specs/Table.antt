use Rattle.std.specs.Prelude.{ℕ, ◌<◌, Bool, List, [], ◌∷◌, map, filter, flat_map, slice_index_or}
use Rattle.std.specs.List.{AllZip, zip}
use Rattle.lw_payload.specs.Views.{View}
use Rattle.lw_runs.specs.Kept.{CanJoin, Stand}
use Rattle.lw_reass.specs.Datagrams.{Datagram}
use Rattle.lw_reass.specs.declared.outcome.FragmentPlan.{FragmentPlan}
use Rattle.lw_reass.specs.declared.outcome.FragmentPlan.TheVariants.{Refuse, Keep, Complete}
use Rattle.lw_reass.specs.declared.outcome.Outcome.{Outcome}
use Rattle.lw_reass.specs.declared.outcome.Outcome.TheVariants.{Whole, Kept, Dropped}

-- what contracts see of reassembly: the open datagrams in the order of their opening; the payloads that are kept of each, in the order of
-- their places; for how many more payloads each has room; and for how many one has that opens
pub record Reassembly (P : Type 0) : Type 0 where
  pub datagrams : List Datagram
  pub kept : List (List P)
  pub rooms : List ℕ
  pub spare : ℕ

-- lists one behind another
abbrev pub joined : {P : Type 0} → List (List P) → List P
joined kept = flat_map (λ ps. ps) kept

-- all payloads that are kept
abbrev pub all_kept : {P : Type 0} → Reassembly P → List P
all_kept r = joined r.kept

-- the payloads of each datagram stand in its octets
abbrev pub IsTied : {P : Type 0} → (P → View) → Reassembly P → Type 0
IsTied seen r = AllZip (λ d ps. Stand seen d.octets ps) r.datagrams r.kept

-- the payloads of the datagrams that pass a test
abbrev pub kept_where : {P : Type 0} → (Datagram → Bool) → Reassembly P → List (List P)
kept_where p r = map (λ e. e.1) (filter (λ e. p e.0) (zip r.datagrams r.kept))

-- the payloads that are kept of the datagram at a place, and for how many more there is room there
abbrev pub kept_at : {P : Type 0} → Reassembly P → ℕ → List P
kept_at r i = slice_index_or r.kept i []

abbrev pub room_at : {P : Type 0} → Reassembly P → ℕ → ℕ
room_at r i = slice_index_or r.rooms i r.spare

-- all memory is there that a plan takes for a payload: a place, and room to join it where its datagram gets whole
abbrev pub IsReady : {P : Type 0} → (P → View) → Reassembly P → FragmentPlan → View → Type 0
IsReady seen r (Refuse why) body = Unit {0}
IsReady seen r (Keep i) body = 0 < room_at r i
IsReady seen r (Complete i w) body = (0 < room_at r i) × CanJoin seen (kept_at r i) body

-- an outcome with the octets of its payload in the payload's place
abbrev pub outcome_of : {P : Type 0} → (P → View) → Outcome P → Outcome (List ℕ)
outcome_of seen (Whole h p) = Whole h (seen p).octets
outcome_of seen Kept = Kept
outcome_of seen (Dropped why p) = Dropped why (seen p).octets

-- the payload that an outcome gives
abbrev pub given_in : {P : Type 0} → Outcome P → List P
given_in (Whole h p) = p ∷ []
given_in Kept = []
given_in (Dropped why p) = p ∷ []
