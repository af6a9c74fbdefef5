-- What callers see of a seat.
use Rattle.std.specs.Prelude.{◌≡◌, ℕ, suc, ◌+◌, ◌-◌, ◌*◌, ◌^◌, ◌<◌, ◌≤◌, Bool, true, false, List, [], ◌∷◌, ◌++◌, length}
use Rattle.atomic_table.specs.Seated.{TableId}
use Rattle.pbuf_counts.specs.Owners.{part_weight, claim_weight, times, IsCount}
use Rattle.pbuf_counts.specs.Holders.{Known, idle_of, view_of, finds}
use Rattle.pbuf_seats.specs.Kept.{free_count}
use Rattle.pbuf_seats.specs.declared.kept.Kept.{Kept}
use Rattle.pbuf_seats.specs.declared.makes.Makes.{Makes}

-- a seat: its holder of the atomic counts, the counts of its kept pbufs, what it counts of makes, how often it may still split, and the pbufs of POOL that it took since a make was counted last
pub record SeatSeen : Type 0 where
  pub holder : Known
  pub kept : Kept
  pub makes : Makes
  pub splits : ℕ
  pub claimed : ℕ

-- A holder h was parted: it is k then, and o is the second, which got the right to claim and what it has claimed where `right` is true
abbrev pub IsParted : Bool → Known → Known → Known → Type 0
IsParted true h k o = (k ≡ record h { weight = h.weight - part_weight; rights = 0; got = [] }) × (o ≡ idle_of h.table part_weight 1 h.got)
IsParted false h k o = (k ≡ record h { weight = h.weight - part_weight }) × (o ≡ idle_of h.table part_weight 0 [])

-- a holder that took in another
abbrev pub joined : Known → Known → Known
joined h o = record h { weight = h.weight + o.weight; rights = h.rights + o.rights; got = o.got ++ h.got; ended = o.ended ++ h.ended; found = o.found ++ h.found }

-- what a holder has found after looks at the pbufs from i on, which found these counts
abbrev pub after_looks : ℕ → List ℕ → List (ℕ × ℕ) → List (ℕ × ℕ)
after_looks i [] found = found
after_looks i (c ∷ cs) found = after_looks (suc i) cs ((i, c) ∷ found)

-- n of the first m pbufs had no owner when the holder h, which is k then, looked at each of them once
pub record IsLookedOver (h k : Known) (m n : ℕ) : Type 0 where
  pub counts : List ℕ
  pub all : length counts ≡ m
  pub found : k ≡ record h { found = after_looks 0 counts h.found }
  pub free : n ≡ free_count counts

-- the weight that is set aside for one make, 2 ^ 36: that of 2 ^ 20 claims
abbrev pub make_weight : ℕ
make_weight = 68719476736

-- A seat's holder is of its counts, owns nothing, and weighs enough for all splits and makes to come. As far as the pbufs of POOL asked for are counted, it took no more:
-- neither by claims, nor of those that it keeps
pub record IsSeat (counts : TableId) (seat : SeatSeen) : Type 0 where
  pub home : seat.holder.table ≡ counts
  pub idle : seat.holder.owners ≡ 0
  pub few : seat.makes.made + seat.makes.refused < 2 ^ 64
  pub stocked : seat.splits * part_weight + (2 ^ 64 - (seat.makes.made + seat.makes.refused)) * make_weight ≤ seat.holder.weight + seat.claimed * claim_weight
  pub claims : seat.claimed < 2 ^ 20
  pub asked : seat.makes.asked < 2 ^ 64 - 1 → length seat.holder.got ≤ seat.makes.asked + seat.claimed
  pub pool : seat.makes.asked < 2 ^ 64 - 1 → length seat.kept.pool.items ≤ free_count seat.kept.pool.items + (seat.makes.asked + seat.claimed)

-- The claim of a pbuf found that it is in use: its count was n, and the right to claim has claimed it before
abbrev pub IsInUse : Known → ℕ → Known → Type 0
IsInUse h place k = (n : ℕ) × (0 < n) × IsCount place (view_of h) n × (0 < times place h.got) × (k ≡ finds place n h)
