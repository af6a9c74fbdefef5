-- What contracts see of a chain.
use Rattle.std.specs.Prelude.{◌≡◌, ℕ, ◌<◌, ◌≤◌, List, length, flat_map, All}
use Rattle.atomic_table.specs.Seated.{TableId}
use Rattle.lw_payload.specs.Views.{Slot}
use Rattle.pbuf_seats.specs.Kept.{rows_of}
use Rattle.pbuf_seats.specs.Seats.{SeatSeen}
use Rattle.pbuf_spans.specs.Parts.{Part, rows_in}

-- a chain: the atomic counts that it is under, its pbufs, and for how many more it has room
pub record ChainSeen : Type 0 where
  pub table : TableId
  pub parts : List Part
  pub room : ℕ

-- the pbufs of all spans, in their order
abbrev pub all_parts : List (List Part) → List Part
all_parts spans = flat_map (λ span. span) spans

-- each span has a pbuf
abbrev pub NoneEmpty : List (List Part) → Type 0
NoneEmpty spans = All (λ span. 0 < length span) spans

-- the chain may be given up to this seat: it is under the same counts, and its rows are among those that the seat gave out
pub record IsOf (seat : SeatSeen) (c : ChainSeen) : Type 0 where
  pub table : c.table ≡ seat.holder.table
  pub listed : (s : Slot) → rows_in c.parts s ≤ rows_of seat.kept s
