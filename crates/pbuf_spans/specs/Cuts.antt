-- What a cut leaves of a chain.
use Rattle.std.specs.Prelude.{◌≡◌, ℕ, ◌+◌, ◌-◌, ◌≤◌, ◌==◌, true, if◌then◌else◌, nat_lt, List, [], ◌∷◌, length, take, drop}
use Rattle.lw_payload.specs.Views.{Slot}
use Rattle.pbuf_seats.specs.Kept.{rows_of}
use Rattle.pbuf_seats.specs.Seats.{SeatSeen}
use Rattle.pbuf_spans.specs.Parts.{Part, rows_in, weight_in, least_adds, all_own, IsSameSeat}

-- of the pbufs ps those of qs are left; the owners of the others were given up to the seat h, which is k then
pub record IsCutTo (h k : SeatSeen) (ps qs : List Part) : Type 0 where
  pub rows : (s : Slot) → rows_of k.kept s + rows_in ps s ≡ rows_of h.kept s + rows_in qs s
  pub fewer : (s : Slot) → rows_in qs s ≤ rows_in ps s
  pub weight : k.holder.weight + weight_in qs ≡ h.holder.weight + weight_in ps
  pub parts : length qs ≤ length ps
  pub adds : least_adds ps ≤ least_adds qs
  pub own : all_own ps ≡ true → all_own qs ≡ true
  pub same : IsSameSeat h k

-- pbufs without their first n octets: those of which no octet is left go, and the first that stays begins later
abbrev pub without_front : ℕ → List Part → List Part
without_front n [] = []
without_front n (p ∷ ps) = if nat_lt n (length p.octets) then record { owner = p.owner; octets = drop n p.octets; own = p.own } ∷ ps else without_front (n - length p.octets) ps

-- pbufs of which the first n octets stay: those that have none of these go, and the last that stays ends earlier
abbrev pub with_front : ℕ → List Part → List Part
with_front n [] = []
with_front n (p ∷ ps) = if n == 0 then [] else record { owner = p.owner; octets = take n p.octets; own = p.own } ∷ with_front (n - length p.octets) ps

-- the same pbufs, with other octets in the same numbers
abbrev pub IsRewritten : List Part → List Part → Type 0
IsRewritten [] [] = Unit {0}
IsRewritten [] (q ∷ qs) = ⊥
IsRewritten (p ∷ ps) [] = ⊥
IsRewritten (p ∷ ps) (q ∷ qs) = (q.owner ≡ p.owner) × (q.own ≡ p.own) × (length q.octets ≡ length p.octets) × IsRewritten ps qs
