use Rattle.std.specs.Prelude.{◌≡◌, ℕ, ◌+◌, ◌/◌, ◌^◌, ◌<◌, ◌≤◌, ◌==◌, Bool, true, not, List, [], length, min, Option, None, IsSomeAnd}
use Rattle.std.specs.List.{count_by, range_with_len}
use Rattle.lw_payload.specs.declared.kinds.Kind.{Kind}
use Rattle.lw_payload.specs.declared.kinds.Kind.TheVariants.{Ram, Pool, Rom, Ref}

-- one pbuf of a kept kind: its kind, and its place among the pbufs of that kind. It has rows, which are shared out among
-- its owners: who has a row of it is an owner, and it is free while none is out
pub record Slot : Type 0 where
  pub kind : Kind
  pub place : ℕ

-- what contracts see of a payload: its octets; in how many parts they stand; for how many parts of others it has room;
-- how often it can surely be shared; whether it is as it was made; how many rows it has of each slot; what its pbufs
-- weigh, where proofs weigh them; and its family, the pools that it is of
pub record View : Type 0 where
  pub octets : List ℕ
  pub parts : ℕ
  pub room : ℕ
  pub shares : ℕ
  pub fresh : Bool
  pub rows : Slot → ℕ
  pub weight : ℕ
  pub family : List ℕ

-- what no call changes in a Home: its family; which kinds it makes; how many pbufs there are of a kind, where they are
-- numbered, whoever keeps their counts; how many it has of each kind that it keeps the counts of itself; how many octets a
-- payload of a kind has at most, where that is bounded; and what one of a length weighs
pub record Pools : Type 0 where
  pub family : List ℕ
  pub makes : Kind → Bool
  pub places : Kind → Option ℕ
  pub size : Kind → Option ℕ
  pub longest : Kind → Option ℕ
  pub weighs : Kind → ℕ → ℕ

-- what a Home counts of its makes of POOL: the payloads made; the makes refused as Empty, and how many octets the last of
-- these was to have; and the pbufs asked for
pub record Makes : Type 0 where
  pub made : ℕ
  pub refused : ℕ
  pub last_refused : ℕ
  pub asked : ℕ

-- what contracts see of a Home: what stays; how many rows it gave out of each slot; its weight; and its counts
pub record HomeView : Type 0 where
  pub pools : Pools
  pub rows : Slot → ℕ
  pub weight : ℕ
  pub counts : Makes

-- how many pbufs of a kind n octets take: none take none; each of POOL has 512 octets, and of another kind one is enough
abbrev pub pbufs_of : Kind → ℕ → ℕ
pbufs_of Ram n = min n 1
pbufs_of Pool n = (n + 511) / 512
pbufs_of Rom n = min n 1
pbufs_of Ref n = min n 1

-- 1 for POOL, whose makes are counted, and 0 for the other kinds
abbrev pub pool_one : Kind → ℕ
pool_one Ram = 0
pool_one Pool = 1
pool_one Rom = 0
pool_one Ref = 0

-- how many of the first n slots of a kind have no row
abbrev pub free_of : (Slot → ℕ) → Kind → ℕ → ℕ
free_of rows kind n = count_by (λ i. rows (record { kind = kind; place = i }) == 0) (range_with_len 0 n)

-- how many of the first n slots of a kind have a row
abbrev pub used_of : (Slot → ℕ) → Kind → ℕ → ℕ
used_of rows kind n = count_by (λ i. not (rows (record { kind = kind; place = i }) == 0)) (range_with_len 0 n)

-- the kind is kept, and fewer of its pbufs have no row than n octets take
abbrev pub IsShort : HomeView → Kind → ℕ → Type 0
IsShort h kind n = IsSomeAnd (h.pools.size kind) (λ size. free_of h.rows kind size < pbufs_of kind n)

-- a payload of this kind can't have so many octets
abbrev pub IsTooLong : HomeView → Kind → ℕ → Type 0
IsTooLong h kind n = IsSomeAnd (h.pools.longest kind) (λ most. most < n)

-- a payload that may be given with this Home: it has fewer than 2^32 octets, is of the Home's family, and its rows are
-- among those that the Home gave out
pub record IsOf (h : HomeView) (p : View) : Type 0 where
  pub short : length p.octets < 2 ^ 32
  pub family : p.family ≡ h.pools.family
  pub listed : (s : Slot) → p.rows s ≤ h.rows s

-- no row at any slot
abbrev pub no_rows : Slot → ℕ
no_rows = λ _. 0

-- octets that nobody counts, with this room: a part for each octet, shares without end
abbrev pub plain_view : List ℕ → ℕ → View
plain_view octets room = record {
  octets = octets;
  parts = length octets;
  room = room;
  shares = 65533;
  fresh = true;
  rows = no_rows;
  weight = 0;
  family = [];
}

-- the pools of payloads that nobody counts: each kind is made, none is kept, and nothing weighs anything
abbrev pub plain_pools : Pools
plain_pools = record { family = []; makes = λ _. true; places = λ _. None; size = λ _. None; longest = λ _. None; weighs = λ _ _. 0 }

-- the Home of payloads that nobody counts
abbrev pub plain_home : HomeView
plain_home = record {
  pools = plain_pools;
  rows = no_rows;
  weight = 0;
  counts = record { made = 0; refused = 0; last_refused = 0; asked = 0 };
}
