use Rattle.std.specs.Prelude.{◌≡◌, ℕ, ◌+◌, ◌<◌, ◌≤◌, List, [], map, filter, length, flat_map, Option, IfSome, slice_index_or}
use Rattle.std.specs.List.{All}
use Rattle.lw_base.specs.declared.heads.IpHead.{IpHead}
use Rattle.lw_payload.specs.Views.{View}
use Rattle.lw_runs.specs.Kept.{Kept, Stand}
use Rattle.lw_reass.specs.Datagrams.{Datagram, opened, stays, is_over}
use Rattle.lw_reass.specs.declared.datagram.Open.{Open}

-- an open datagram as contracts see it
abbrev pub datagram : {P H : Type 0} → Open P H → Datagram
datagram o = record { key = o.key; age = o.age; octets = o.runs.octets; end = o.end; head = o.head }

-- the payloads of open datagrams
abbrev pub bodies_in : {P H : Type 0} → List (Open P H) → List P
bodies_in os = flat_map (λ o. o.runs.bodies) os

-- those of each
abbrev pub kept_in : {P H : Type 0} → List (Open P H) → List (List P)
kept_in os = map (λ o. o.runs.bodies) os

-- those of the datagram at a place
abbrev pub kept_at : {P H : Type 0} → List (Open P H) → ℕ → List P
kept_at os i = slice_index_or (kept_in os) i []

-- no octet is there behind the end, where that is known
abbrev pub IsWithin : Option ℕ → List (Option ℕ) → Type 0
IsWithin end octets = IfSome end (λ e. length octets ≤ e)

-- an open datagram is younger than 60 ticks, reaches no farther than its end and 65,535, and its payloads stand in its octets
pub record IsOpen {P H : Type 0} (seen : P → View) (o : Open P H) : Type 0 where
  pub young : o.age < 60
  pub short : length o.runs.octets ≤ 65535
  pub within : IsWithin o.end o.runs.octets
  pub stand : Stand seen o.runs.octets o.runs.bodies

-- what holds of the fields of `Reass`
pub record AreOpen {P H : Type 0} (seen : P → View) (opens : List (Open P H)) (spare : Kept P) (capacity : ℕ) : Type 0 where
  pub few : length opens ≤ 5
  pub each : All (IsOpen seen) opens
  pub empty : spare.octets ≡ []
  pub none : spare.bodies ≡ []
  pub place : 5 ≤ capacity

-- the datagram at a place
abbrev pub the_datagram : {P H : Type 0} → List (Open P H) → ℕ → IpHead → Datagram
the_datagram os i h = slice_index_or (map datagram os) i (opened h)

-- for how many more payloads each has room
abbrev pub rooms_in : {P H : Type 0} → List (Open P H) → List ℕ
rooms_in os = map (λ o. o.runs.room) os

-- one that is a tick older
abbrev pub grown : {P H : Type 0} → Open P H → Open P H
grown o = record o { age = o.age + 1 }

-- the datagrams that are over with a tick, and those that stay, which are a tick older
abbrev pub overs : {P H : Type 0} → List (Open P H) → List (Open P H)
overs os = filter (λ o. is_over (datagram o)) os

abbrev pub nexts : {P H : Type 0} → List (Open P H) → List (Open P H)
nexts os = map grown (filter (λ o. stays (datagram o)) os)
