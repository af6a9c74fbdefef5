-- What callers see of a holder.
use Rattle.std.specs.Prelude.{◌≡◌, ℕ, ◌+◌, ◌<◌, ◌≤◌, List, [], ◌∷◌}
use Rattle.atomic_table.specs.Seated.{TableId}
use Rattle.atomic_table.specs.declared.shared.Seat.{Seat}
use Rattle.pbuf_counts.specs.declared.rule.View.{View}
use Rattle.pbuf_counts.specs.Owners.{owner, idle}

-- a holder: the counts that it is of, the pbuf that it owns, how many owners it stands for, how many it may still add, its weight, whether it has the right to claim (1) or not (0),
-- the pbufs that this right has claimed, those that it dropped as their last owner, and the counts that its steps found, newest first
pub record Known : Type 0 where
  pub table : TableId
  pub place : ℕ
  pub owners : ℕ
  pub adds : ℕ
  pub weight : ℕ
  pub rights : ℕ
  pub got : List ℕ
  pub ended : List ℕ
  pub found : List (ℕ × ℕ)

-- a holder of these counts that knows so much
abbrev pub known : TableId → View → Known
known t v = record { table = t; place = v.place; owners = v.owners; adds = v.adds; weight = v.weight; rights = v.rights; got = v.got; ended = v.ended; found = v.found }

-- what the holder knows, as it stands in the owner list
abbrev pub view_of : Known → View
view_of h = record { place = h.place; owners = h.owners; adds = h.adds; weight = h.weight; rights = h.rights; got = h.got; ended = h.ended; found = h.found }

-- a holder of one owner of the pbuf k
abbrev pub owner_of : TableId → ℕ → ℕ → ℕ → Known
owner_of t k adds weight = known t (owner k adds weight)

-- a holder of no owner
abbrev pub idle_of : TableId → ℕ → ℕ → List ℕ → Known
idle_of t weight rights got = known t (idle weight rights got)

-- the holder after a step that found the count n of the pbuf k
abbrev pub finds : ℕ → ℕ → Known → Known
finds k n h = record h { found = (k, n) ∷ h.found }

-- The numbers that a holder keeps are those that its seat knows
pub record IsHolder {S : Type 0} (seat : Seat S View) (place owners adds : ℕ) : Type 0 where
  pub same_place : seat.me.0.place ≡ place
  pub same_owners : seat.me.0.owners ≡ owners
  pub same_adds : seat.me.0.adds ≡ adds
  pub slotless : seat.me.1 ≡ []
  pub within : place < seat.table_id.words
  pub idle : owners ≡ 0 → (place ≡ 0) × (adds ≡ 0)
  pub heavy : owners + adds ≤ seat.me.0.weight
