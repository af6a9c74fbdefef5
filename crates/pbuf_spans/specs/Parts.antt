-- The pbufs of a chain, as contracts see them.
use Rattle.std.specs.Prelude.{◌≡◌, ℕ, ◌+◌, ◌^◌, ◌<◌, ◌&&◌, Bool, true, List, [], ◌∷◌, ◌++◌, length, sum_by, min, All}
use Rattle.atomic_table.specs.Seated.{TableId}
use Rattle.lw_payload.specs.declared.kinds.Kind.{Kind}
use Rattle.lw_payload.specs.Views.{Slot}
use Rattle.pbuf_counts.specs.Holders.{Known, owner_of}
use Rattle.pbuf_seats.specs.declared.owner.Owner.{Owner}
use Rattle.pbuf_seats.specs.declared.owner.Owner.TheVariants.{Kept, Counted}
use Rattle.pbuf_seats.specs.Kept.{counts_of, rows_of}
use Rattle.pbuf_seats.specs.Owners.{row_of, weight_of, adds_of}
use Rattle.pbuf_seats.specs.Seats.{SeatSeen}

-- an owner of a pbuf, the octets of it that the chain has, and whether they are in a body that is this chain's alone
pub record Part : Type 0 where
  pub owner : Owner
  pub octets : List ℕ
  pub own : Bool

-- the octets of all parts, in their order
abbrev pub joined : List Part → List ℕ
joined [] = []
joined (p ∷ ps) = p.octets ++ joined ps

-- whether the octets of all parts are in bodies that are this chain's alone
abbrev pub all_own : List Part → Bool
all_own [] = true
all_own (p ∷ ps) = p.own && all_own ps

-- how many owners the parts are at a slot
abbrev pub rows_in : List Part → Slot → ℕ
rows_in ps s = sum_by (λ p. row_of p.owner s) ps

-- what the owners weigh together
abbrev pub weight_in : List Part → ℕ
weight_in ps = sum_by (λ p. weight_of p.owner) ps

-- how often each of the owners may be shared: the least of their adds, and 65,533 or more where there is none
abbrev pub least_adds : List Part → ℕ
least_adds [] = 65534
least_adds (p ∷ ps) = min (adds_of p.owner) (least_adds ps)

-- an owner under these atomic counts, or of a kept pbuf
abbrev pub IsUnder : TableId → Owner → Type 0
IsUnder t (Kept r) = Unit {0}
IsUnder t (Counted h) = h ≡ owner_of t h.place h.adds h.weight

-- the pbufs of a chain: their owners are under its counts, and each has an octet
pub record IsChain (t : TableId) (ps : List Part) : Type 0 where
  pub under : All (λ p. IsUnder t p.owner) ps
  pub some : All (λ p. 0 < length p.octets) ps
  pub short : length (joined ps) < 2 ^ 32

-- a seat h, which is k then, is the same but for its rows, its weight and what its holder knows
pub record IsSameSeat (h k : SeatSeen) : Type 0 where
  pub table : k.holder.table ≡ h.holder.table
  pub right : k.holder.rights ≡ h.holder.rights
  pub sizes : (kind : Kind) → length (counts_of kind k.kept) ≡ length (counts_of kind h.kept)
  pub makes : k.makes ≡ h.makes
  pub splits : k.splits ≡ h.splits
  pub claimed : k.claimed ≡ h.claimed

-- what the parts held went to the seat, which is k then: a row less for each kept pbuf, and the weight
pub record IsSpent (h k : SeatSeen) (ps : List Part) : Type 0 where
  pub rows : (s : Slot) → rows_of k.kept s + rows_in ps s ≡ rows_of h.kept s
  pub weight : k.holder.weight ≡ h.holder.weight + weight_in ps
  pub same : IsSameSeat h k

-- a holder h, which is k then, gave owners up: it found counts as it did so, and claimed nothing
pub record GivesBack (h k : Known) : Type 0 where
  pub later : List (ℕ × ℕ)
  pub finds : k.found ≡ later ++ h.found
  pub gets : k.got ≡ h.got
