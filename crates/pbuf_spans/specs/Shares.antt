-- What a share makes of pbufs: two of each, with the same octets and owners of their own.
use Rattle.std.specs.Prelude.{◌≡◌, ℕ, ◌+◌, ◌<◌, ◌≤◌, Bool, false, ◌&&◌, List, [], map, length, All, if◌then◌else◌, nat_lt, vec_capacity}
use Rattle.lw_payload.specs.Views.{Slot}
use Rattle.pbuf_seats.specs.Kept.{rows_of}
use Rattle.pbuf_seats.specs.Owners.{adds_of, sharing, share_of}
use Rattle.pbuf_seats.specs.declared.pbuf.Pbuf.{Pbuf}
use Rattle.pbuf_seats.specs.Seats.{SeatSeen}
use Rattle.pbuf_spans.specs.declared.twin.Twin.{Twin}
use Rattle.pbuf_spans.specs.Parts.{Part, joined, rows_in, weight_in, least_adds, IsUnder}
use Rattle.pbuf_spans.specs.Spans.{bare}

-- how many of its adds an owner hands to the new one: 15 where so many are left beside the one that is used up, and where it hands on any
abbrev pub handed : Bool → ℕ → ℕ
handed hands adds = if hands && nat_lt 15 adds then 15 else 0

-- a pbuf of the chain that was shared
abbrev pub first_of : Bool → Part → Part
first_of hands p = record { owner = sharing (handed hands (adds_of p.owner)) p.owner; octets = p.octets; own = false }

-- the same pbuf in the new chain
abbrev pub second_of : Bool → Part → Part
second_of hands p = record { owner = share_of (handed hands (adds_of p.owner)) p.owner; octets = p.octets; own = false }

-- the same part, whose octets are in a shared body
abbrev pub as_shared : Part → Part
as_shared p = record { owner = p.owner; octets = p.octets; own = false }

-- the pbufs ps, which are qs then, and ms have the owners of both chains, which shared out the rows and the weight that those of ps had
pub record AllShared (hands : Bool) (ps qs ms : List Part) : Type 0 where
  pub first : qs ≡ map (first_of hands) ps
  pub second : ms ≡ map (second_of hands) ps
  pub rows : (s : Slot) → rows_in qs s + rows_in ms s ≡ rows_in ps s
  pub weight : weight_in qs + weight_in ms ≡ weight_in ps

-- each of the owners of the pbufs ps may add one
pub record MayShare (h : SeatSeen) (ps : List Part) : Type 0 where
  pub under : All (λ q. IsUnder h.holder.table q.owner) ps
  pub listed : (s : Slot) → rows_in ps s ≤ rows_of h.kept s
  pub adds : 0 < least_adds ps

-- memory for two spans of the octets of these pbufs, and for owners of as many
pub record IsTwin (ps : List Part) (t : Twin) : Type 0 where
  pub first : t.first.octets ≡ joined ps
  pub second : t.second.octets ≡ joined ps
  pub none : t.pbufs.items ≡ []
  pub room : length ps ≤ vec_capacity t.pbufs

-- a pbuf that was shared, and the same pbuf of the share
abbrev pub first_held : Bool → Pbuf → Pbuf
first_held hands p = record { owner = sharing (handed hands (adds_of p.owner)) p.owner; len = p.len }

abbrev pub second_held : Bool → Pbuf → Pbuf
second_held hands p = record { owner = share_of (handed hands (adds_of p.owner)) p.owner; len = p.len }

-- the same of the owners alone: those of ps, which are qs then, and those of ms
pub record OwnersShared (hands : Bool) (ps qs ms : List Pbuf) : Type 0 where
  pub first : qs ≡ map (first_held hands) ps
  pub second : ms ≡ map (second_held hands) ps
  pub rows : (s : Slot) → rows_in (bare qs) s + rows_in (bare ms) s ≡ rows_in (bare ps) s
  pub weight : weight_in (bare qs) + weight_in (bare ms) ≡ weight_in (bare ps)
