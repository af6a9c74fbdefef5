-- What an owner of a pbuf is, and how it is given up.
use Rattle.std.specs.Prelude.{◌≡◌, ℕ, ◌+◌, ◌-◌, ◌≤◌, ◌↔◌, Bool, true, cond, ◌∷◌, length}
use Rattle.lw_payload.specs.Views.{Slot}
use Rattle.pbuf_counts.specs.Owners.{IsCount}
use Rattle.pbuf_counts.specs.Holders.{Known, owner_of, view_of}
use Rattle.pbuf_seats.specs.declared.owner.Owner.{Owner}
use Rattle.pbuf_seats.specs.declared.owner.Owner.TheVariants.{Kept, Counted}
use Rattle.pbuf_seats.specs.declared.owner.Row.{Row}
use Rattle.pbuf_seats.specs.Kept.{rows_of, rows_at, all_free}
use Rattle.pbuf_seats.specs.Seats.{SeatSeen}

-- the slot of a row
abbrev pub slot_of : Row → Slot
slot_of r = record { kind = r.kind; place = r.place }

-- the rows that an owner has, one for itself and one for each owner that it may add: none where the count is atomic
abbrev pub row_of : Owner → Slot → ℕ
row_of (Kept r) s = rows_at r.kind r.place (r.adds + 1) s
row_of (Counted h) s = 0

-- what an owner weighs: nothing where the pbuf is kept
abbrev pub weight_of : Owner → ℕ
weight_of (Kept r) = 0
weight_of (Counted h) = h.weight

-- how many owners it may still add
abbrev pub adds_of : Owner → ℕ
adds_of (Kept r) = r.adds
adds_of (Counted h) = h.adds

-- the owner may be given up to this seat: its rows are among those that the seat gave out, or it is an owner under the seat's atomic counts
abbrev pub IsOwner : SeatSeen → Owner → Type 0
IsOwner seat (Kept r) = r.adds + 1 ≤ rows_of seat.kept (slot_of r)
IsOwner seat (Counted h) = h ≡ owner_of seat.holder.table h.place h.adds h.weight

-- The owner h was given up to the holder k, which is k' then: it found the pbuf's count, and is the last where that was 1
abbrev pub TakesBack : Known → Known → Bool → Known → Type 0
TakesBack k h last k' = (n : ℕ) × IsCount h.place (view_of h) n × ((last ≡ true) ↔ (n ≡ 1))
    × (k' ≡ record k { weight = k.weight + h.weight; ended = cond last (h.place ∷ k.ended) k.ended; found = (h.place, n) ∷ k.found })

-- how a seat is left where an owner was given up to it, which was the last or not
abbrev pub GaveUp : SeatSeen → Owner → Bool → SeatSeen → Type 0
GaveUp seat (Kept r) last seat' = ((last ≡ true) ↔ (rows_of seat'.kept (slot_of r) ≡ 0)) × (seat' ≡ record seat { kept = seat'.kept })
GaveUp seat (Counted h) last seat' = TakesBack seat.holder h last seat'.holder × (seat' ≡ record seat { holder = seat'.holder })

-- what an owner is once it was shared, and so many of its adds were handed on
abbrev pub sharing : ℕ → Owner → Owner
sharing adds (Kept r) = Kept (record r { adds = r.adds - (adds + 1) })
sharing adds (Counted h) = Counted (record h { adds = h.adds - (adds + 1); weight = h.weight - (adds + 1) })

-- the second owner of the same pbuf, with so many adds
abbrev pub share_of : ℕ → Owner → Owner
share_of adds (Kept r) = Kept (record r { adds = adds })
share_of adds (Counted h) = Counted (owner_of h.table h.place adds (adds + 1))

-- how many lives of pbufs have ended at the seat: the Lasts of its holder, and the kept pbufs without an owner
abbrev pub ended_at : SeatSeen → ℕ
ended_at seat = length seat.holder.ended + all_free seat.kept
