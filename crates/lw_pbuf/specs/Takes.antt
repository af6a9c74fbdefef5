-- How pbufs are taken from a seat and given back to it.
use Rattle.std.specs.Prelude.{◌≡◌, ℕ, ◌+◌, ◌*◌, ◌<◌, ◌≤◌, ◌==◌, Bool, true, false, if◌then◌else◌, List, ◌++◌, length, sum_by, count_by, All}
use Rattle.lw_payload.specs.declared.kinds.Kind.{Kind}
use Rattle.lw_payload.specs.declared.kinds.Kind.TheVariants.{Ram, Pool, Rom, Ref}
use Rattle.lw_payload.specs.Views.{Slot, pool_one}
use Rattle.pbuf_counts.specs.Owners.{times, first_adds, claim_weight}
use Rattle.pbuf_counts.specs.Holders.{Known}
use Rattle.pbuf_seats.specs.declared.owner.Owner.{Owner}
use Rattle.pbuf_seats.specs.declared.owner.Owner.TheVariants.{Kept, Counted}
use Rattle.pbuf_seats.specs.Kept.{counts_of, rows_of, free_count}
use Rattle.pbuf_seats.specs.Owners.{row_of, weight_of, adds_of}
use Rattle.pbuf_seats.specs.Seats.{SeatSeen}
use Rattle.pbuf_spans.specs.Parts.{Part, rows_in, weight_in, IsUnder}

-- 1 for an owner that a claim made
abbrev pub claim_of : Owner → ℕ
claim_of (Kept r) = 0
claim_of (Counted h) = 1

-- how many of the parts' owners claims made
abbrev pub claims_in : List Part → ℕ
claims_in ps = sum_by (λ p. claim_of p.owner) ps

-- the counts of this kind are atomic for the seat
abbrev pub is_counted : SeatSeen → Kind → Bool
is_counted seat Ram = false
is_counted seat Pool = length seat.kept.pool.items == 0
is_counted seat Rom = false
is_counted seat Ref = false

-- how many pbufs of the kind there are to take from the seat
abbrev pub places_of : SeatSeen → Kind → ℕ
places_of seat kind = if is_counted seat kind then seat.holder.table.words else length (counts_of kind seat.kept)

-- how many pbufs of the kind the seat keeps that have no owner
abbrev pub free_in : SeatSeen → Kind → ℕ
free_in seat kind = free_count (counts_of kind seat.kept)

-- a seat h, which is k then, gave out so many rows and so much weight, and so many of its claims got a pbuf; what it counts of pbufs of POOL taken is said apart
pub record Gives (h k : SeatSeen) (rows : Slot → ℕ) (weight claims : ℕ) : Type 0 where
  pub more : (s : Slot) → rows_of k.kept s ≡ rows_of h.kept s + rows s
  pub less : k.holder.weight + weight ≡ h.holder.weight
  pub table : k.holder.table ≡ h.holder.table
  pub right : k.holder.rights ≡ h.holder.rights
  pub sizes : (kind : Kind) → length (counts_of kind k.kept) ≡ length (counts_of kind h.kept)
  pub makes : k.makes ≡ h.makes
  pub splits : k.splits ≡ h.splits
  pub got : length k.holder.got ≡ length h.holder.got + claims

-- nothing was given out
pub record GivesNone (h k : SeatSeen) : Type 0 where
  pub gives : Gives h k (λ _. 0) 0 0
  pub kept : k.kept ≡ h.kept
  pub claimed : k.claimed ≡ h.claimed

-- an owner of a pbuf of this kind was taken from the seat h, which is k then: the first of its pbuf, which was free, with all its adds
pub record IsTaken (h k : SeatSeen) (kind : Kind) (o : Owner) : Type 0 where
  pub gives : Gives h k (row_of o) (weight_of o) (claim_of o)
  pub under : IsUnder h.holder.table o
  pub adds : adds_of o ≡ first_adds
  pub claimed : k.claimed ≡ h.claimed + pool_one kind
  pub rows : (s : Slot) → 0 < row_of o s → (s.kind ≡ kind) × (is_counted h kind ≡ false)
  pub alone : (s : Slot) → 0 < row_of o s → rows_of h.kept s ≡ 0
  pub kept : is_counted h kind ≡ false → (claim_of o ≡ 0) × (weight_of o ≡ 0) × (free_in k kind + 1 ≡ free_in h kind)
  pub counted : is_counted h kind ≡ true → (claim_of o ≡ 1) × (weight_of o ≡ claim_weight)

-- so were the owners of these parts
pub record AreTaken (h k : SeatSeen) (kind : Kind) (ps : List Part) : Type 0 where
  pub gives : Gives h k (rows_in ps) (weight_in ps) (claims_in ps)
  pub under : All (λ p. IsUnder h.holder.table p.owner) ps
  pub adds : All (λ p. adds_of p.owner ≡ first_adds) ps
  pub claimed : k.claimed ≡ h.claimed + pool_one kind * length ps
  pub rows : (s : Slot) → 0 < rows_in ps s → (s.kind ≡ kind) × (is_counted h kind ≡ false)
  pub alone : (s : Slot) → 0 < rows_in ps s → rows_of h.kept s ≡ 0
  pub kept : is_counted h kind ≡ false → (claims_in ps ≡ 0) × (weight_in ps ≡ 0) × (free_in k kind + length ps ≡ free_in h kind)
  pub counted : is_counted h kind ≡ true → (claims_in ps ≡ length ps) × (weight_in ps ≡ claim_weight * length ps)

-- between two moments of a holder its claims got these pbufs, and found these in use, with such counts; the newest stands first. Those that they found in use the right to claim
-- had claimed before
pub record Claims (h k : Known) (got : List ℕ) (misses : List (ℕ × ℕ)) : Type 0 where
  pub gets : k.got ≡ got ++ h.got
  pub finds : k.found ≡ misses ++ h.found
  pub in_use : All (λ m. 0 < m.1) misses
  pub owned : All (λ m. 0 < times m.0 k.got) misses

-- how many of the misses are at this place
abbrev pub missed : ℕ → List (ℕ × ℕ) → ℕ
missed place misses = count_by (λ m. m.0 == place) misses

-- above 0 where the pbuf at this place is in use: it has owners where the kind is kept; else claims got it, or found it in use
abbrev pub use_at : SeatSeen → Kind → List ℕ → List (ℕ × ℕ) → ℕ → ℕ
use_at seat kind got misses place = if is_counted seat kind then times place got + missed place misses else rows_of seat.kept (record { kind = kind; place = place })

-- the place was tried between the seats h and k: its pbuf is in use
pub record IsTried (h k : SeatSeen) (kind : Kind) (place : ℕ) : Type 0 where
  pub got : List ℕ
  pub misses : List (ℕ × ℕ)
  pub claims : Claims h.holder k.holder got misses
  pub used : 0 < use_at k kind got misses place

-- The turns from `from` on and below `to` were tried between the seats h and k. A turn below the number of places is a place; the turns from there on are the places from 0 on
pub record AreTried (h k : SeatSeen) (kind : Kind) (places from to : ℕ) : Type 0 where
  pub got : List ℕ
  pub misses : List (ℕ × ℕ)
  pub claims : Claims h.holder k.holder got misses
  pub first : (place : ℕ) → from ≤ place → place < to → place < places → 0 < use_at k kind got misses place
  pub again : (place : ℕ) → from ≤ place + places → place + places < to → 0 < use_at k kind got misses place

-- every place of the kind was tried between the seats h and k
pub record AllTried (h k : SeatSeen) (kind : Kind) : Type 0 where
  pub got : List ℕ
  pub misses : List (ℕ × ℕ)
  pub claims : Claims h.holder k.holder got misses
  pub each : (place : ℕ) → place < places_of h kind → 0 < use_at k kind got misses place
