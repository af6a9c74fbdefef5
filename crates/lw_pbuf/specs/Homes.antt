-- A seat as a Home of payloads, and a chain as a payload.
use Rattle.std.specs.Prelude.{ℕ, ◌*◌, ◌==◌, ◌&&◌, ◌||◌, Bool, not, if◌then◌else◌, List, ◌∷◌, length, Option, Some, None}
use Rattle.atomic_table.specs.Seated.{TableId}
use Rattle.lw_payload.specs.declared.kinds.Kind.{Kind}
use Rattle.lw_payload.specs.declared.kinds.Kind.TheVariants.{Ram, Pool, Rom, Ref}
use Rattle.lw_payload.specs.Views.{View, HomeView, Pools, pbufs_of}
use Rattle.pbuf_counts.specs.Owners.{claim_weight}
use Rattle.pbuf_seats.specs.Kept.{rows_of}
use Rattle.pbuf_seats.specs.Seats.{SeatSeen}
use Rattle.pbuf_spans.specs.Parts.{joined, rows_in, weight_in, least_adds, all_own}
use Rattle.lw_pbuf.specs.Chains.{ChainSeen}
use Rattle.lw_pbuf.specs.Makes.{longest_of}

-- the numbers of a table: no two tables have the same
abbrev pub family_of : TableId → List ℕ
family_of t = t.words ∷ t.slots ∷ t.views_name ∷ t.atom ∷ t.block ∷ t.offset ∷ t.slot_names

-- one of four numbers, for each kind
abbrev pub of_kinds : (ram pool rom reference : ℕ) → Kind → ℕ
of_kinds ram pool rom reference Ram = ram
of_kinds ram pool rom reference Pool = pool
of_kinds ram pool rom reference Rom = rom
of_kinds ram pool rom reference Ref = reference

-- a kind is kept where there are pbufs of it
abbrev pub kept_size : ℕ → Option ℕ
kept_size n = if n == 0 then None else Some n

-- POOL can be made where it is kept, and by who has the right to claim it; and where all claims are counted
abbrev pub makes_pool : (pool rights claimed : ℕ) → Bool
makes_pool pool rights claimed = (not (pool == 0) || (rights == 1)) && (claimed == 0)

-- which kinds can be made
abbrev pub makes_kind : (ram pool rom reference rights claimed : ℕ) → Kind → Bool
makes_kind ram pool rom reference rights claimed Ram = not (ram == 0)
makes_kind ram pool rom reference rights claimed Pool = makes_pool pool rights claimed
makes_kind ram pool rom reference rights claimed Rom = not (rom == 0)
makes_kind ram pool rom reference rights claimed Ref = not (reference == 0)

-- what n octets weigh: a claim for each pbuf of POOL, where that isn't kept
abbrev pub weighs_in : (pool : ℕ) → Kind → ℕ → ℕ
weighs_in pool Ram n = 0
weighs_in pool Pool n = if pool == 0 then claim_weight * pbufs_of Pool n else 0
weighs_in pool Rom n = 0
weighs_in pool Ref n = 0

-- how many pbufs of POOL there are: those that are kept, or all with atomic counts
abbrev pub pool_places : TableId → (pool : ℕ) → ℕ
pool_places t pool = if pool == 0 then t.words else pool

-- the pools of a seat of this table that keeps so many pbufs of each kind
abbrev pub pools_of : TableId → (ram pool rom reference rights claimed : ℕ) → Pools
pools_of t ram pool rom reference rights claimed = record {
  family = family_of t;
  makes = makes_kind ram pool rom reference rights claimed;
  places = λ kind. Some (of_kinds ram (pool_places t pool) rom reference kind);
  size = λ kind. kept_size (of_kinds ram pool rom reference kind);
  longest = λ kind. Some (longest_of kind);
  weighs = weighs_in pool;
}

-- a seat as a Home
abbrev pub home_of : SeatSeen → HomeView
home_of h = record {
  pools = pools_of h.holder.table (length h.kept.ram.items) (length h.kept.pool.items) (length h.kept.rom.items) (length h.kept.reference.items) h.holder.rights h.claimed;
  rows = rows_of h.kept;
  weight = h.holder.weight;
  counts = record { made = h.makes.made; refused = h.makes.refused; last_refused = h.makes.last_refused; asked = h.makes.asked };
}

-- a chain as a payload: a part is a pbuf, and its shares are the least of its owners' adds
abbrev pub payload_of : ChainSeen → View
payload_of c = record {
  octets = joined c.parts;
  parts = length c.parts;
  room = c.room;
  shares = least_adds c.parts;
  fresh = all_own c.parts;
  rows = rows_in c.parts;
  weight = weight_in c.parts;
  family = family_of c.table;
}
