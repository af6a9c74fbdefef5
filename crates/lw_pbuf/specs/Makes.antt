-- How a chain is made, or refused.
use Rattle.std.specs.Prelude.{◌≡◌, ℕ, ◌+◌, ◌-◌, ◌*◌, ◌^◌, ◌<◌, ◌≤◌, true, false, if◌then◌else◌, List, ◌++◌, length, take, min, All}
use Rattle.lw_payload.specs.declared.kinds.Kind.{Kind}
use Rattle.lw_payload.specs.declared.kinds.Kind.TheVariants.{Ram, Pool, Rom, Ref}
use Rattle.lw_payload.specs.Views.{Slot, pbufs_of, pool_one}
use Rattle.pbuf_counts.specs.Owners.{times, first_adds, claim_weight}
use Rattle.pbuf_counts.specs.Holders.{Known}
use Rattle.pbuf_seats.specs.declared.makes.Makes.{Makes}
use Rattle.pbuf_seats.specs.Kept.{counts_of, rows_of}
use Rattle.pbuf_seats.specs.Owners.{adds_of}
use Rattle.pbuf_seats.specs.Seats.{SeatSeen}
use Rattle.pbuf_spans.specs.Parts.{joined, rows_in, weight_in, all_own}
use Rattle.lw_pbuf.specs.Chains.{ChainSeen}
use Rattle.lw_pbuf.specs.Takes.{is_counted, places_of, free_in, missed}

-- so many octets a chain of the kind has at most
abbrev pub longest_of : Kind → ℕ
longest_of Ram = 1600
longest_of Pool = 65535
longest_of Rom = 65535
longest_of Ref = 65535

-- so many octets a pbuf of the kind has at most
abbrev pub body_of : Kind → ℕ
body_of Ram = 65535
body_of Pool = 512
body_of Rom = 65535
body_of Ref = 65535

-- how many claims a chain of n octets of this kind takes
abbrev pub claims_for : SeatSeen → Kind → ℕ → ℕ
claims_for seat kind n = if is_counted seat kind then pbufs_of kind n else 0

-- the counts of makes after one of n octets of this kind that was made
abbrev pub granted_of : Kind → ℕ → Makes → Makes
granted_of Ram n m = m
granted_of Pool n m = record m { made = m.made + 1; asked = min (m.asked + pbufs_of Pool n) (2 ^ 64 - 1) }
granted_of Rom n m = m
granted_of Ref n m = m

-- after one that was refused
abbrev pub denied_of : Kind → ℕ → Makes → Makes
denied_of Ram n m = m
denied_of Pool n m = record m { refused = m.refused + 1; last_refused = n; asked = min (m.asked + pbufs_of Pool n) (2 ^ 64 - 1) }
denied_of Rom n m = m
denied_of Ref n m = m

-- a chain of these octets was made: in as few pbufs as hold them, of which the first i have i times as many as a pbuf has at most, where there are so many; each of the kind,
-- free until then and with its first owner, which came from the seat h, which is k then
pub record IsAlloc (h k : SeatSeen) (kind : Kind) (text : List ℕ) (c : ChainSeen) : Type 0 where
  pub octets : joined c.parts ≡ text
  pub parts : length c.parts ≡ pbufs_of kind (length text)
  pub full : (i : ℕ) → length (joined (take i c.parts)) ≡ min (i * body_of kind) (length text)
  pub fresh : all_own c.parts ≡ true
  pub adds : All (λ p. adds_of p.owner ≡ first_adds) c.parts
  pub table : c.table ≡ h.holder.table
  pub rows : (s : Slot) → rows_of k.kept s ≡ rows_of h.kept s + rows_in c.parts s
  pub kept : (s : Slot) → 0 < rows_in c.parts s → (s.kind ≡ kind) × (is_counted h kind ≡ false)
  pub alone : (s : Slot) → 0 < rows_in c.parts s → rows_of h.kept s ≡ 0
  pub free : is_counted h kind ≡ false → free_in k kind + pbufs_of kind (length text) ≡ free_in h kind
  pub weighs : weight_in c.parts ≡ claim_weight * claims_for h kind (length text)
  pub weight : k.holder.weight + weight_in c.parts ≡ h.holder.weight
  pub claims : length k.holder.got ≡ length h.holder.got + claims_for h kind (length text)
  pub enough : is_counted h kind ≡ false → pbufs_of kind (length text) ≤ free_in h kind
  pub makes : k.makes ≡ granted_of kind (length text) h.makes

-- A call that needed so many pbufs with atomic counts got too few: it claimed at every place, each of which it got or found in use; by then the right to claim has claimed each pbuf
pub record IsExhausted (h k : Known) (needed : ℕ) : Type 0 where
  pub got : List ℕ
  pub misses : List (ℕ × ℕ)
  pub later : List (ℕ × ℕ)
  pub gets : k.got ≡ got ++ h.got
  pub finds : k.found ≡ later ++ (misses ++ h.found)
  pub in_use : All (λ m. 0 < m.1) misses
  pub each : (place : ℕ) → place < h.table.words → 0 < times place got + missed place misses
  pub covered : (place : ℕ) → place < h.table.words → 0 < times place k.got
  pub few : length got < needed

-- a chain of n octets was refused, since too few of its pbufs had no owner; nothing stays claimed. By then more pbufs of POOL were asked for than there are
pub record IsDenied (h k : SeatSeen) (kind : Kind) (n : ℕ) : Type 0 where
  pub rows : (s : Slot) → rows_of k.kept s ≡ rows_of h.kept s
  pub weight : k.holder.weight ≡ h.holder.weight
  pub makes : k.makes ≡ denied_of kind n h.makes
  pub short : is_counted h kind ≡ false → free_in h kind < pbufs_of kind n
  pub asked : kind ≡ Pool → places_of h kind < k.makes.asked
  pub exhausted : is_counted h kind ≡ true → IsExhausted h.holder k.holder (pbufs_of kind n)

-- what a call for a chain of n octets leaves as it was, whatever it answers; the pbufs of POOL asked for grow by no more than it takes
pub record KeepsSeat (h k : SeatSeen) (kind : Kind) (n : ℕ) : Type 0 where
  pub table : k.holder.table ≡ h.holder.table
  pub right : k.holder.rights ≡ h.holder.rights
  pub sizes : (kind : Kind) → length (counts_of kind k.kept) ≡ length (counts_of kind h.kept)
  pub splits : k.splits ≡ h.splits
  pub claimed : k.claimed ≡ h.claimed
  pub asked_least : h.makes.asked ≤ k.makes.asked
  pub asked_most : k.makes.asked ≤ h.makes.asked + pool_one kind * pbufs_of kind n
