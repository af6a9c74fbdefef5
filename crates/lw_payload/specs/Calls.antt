use Rattle.std.specs.Prelude.{◌≡◌, ℕ, ◌+◌, ◌-◌, ◌*◌, ◌^◌, ◌<◌, ◌≤◌, ◌↔◌, List, ◌++◌, length, min, true, IsSome, IfSome}
use Rattle.lw_payload.specs.declared.kinds.Kind.{Kind}
use Rattle.lw_payload.specs.declared.kinds.Kind.TheVariants.{Ram, Pool, Rom, Ref}
use Rattle.lw_payload.specs.Views.{Slot, View, HomeView, pbufs_of, pool_one, free_of, used_of}

-- In each record h is the Home before the call and k after it, p the payload before it and q after it.

-- the pbufs of POOL asked for, after a make of n octets of this kind; the count ends at 2^64 - 1
abbrev pub asked_after : Kind → ℕ → ℕ → ℕ
asked_after Ram n asked = asked
asked_after Pool n asked = min (asked + pbufs_of Pool n) (2 ^ 64 - 1)
asked_after Rom n asked = asked
asked_after Ref n asked = asked

-- a payload p of these octets was made: it is fresh, of the Home's family, with at most one part for each octet and at
-- least 65,533 shares; its rows and its weight came out of the Home. Its rows are of this kind, only where that is kept,
-- and of slots that were free; there it took just as many slots as the octets take. The make is counted where pbufs are
-- numbered
pub record IsMade (h k : HomeView) (kind : Kind) (text : List ℕ) (p : View) : Type 0 where
  pub octets : p.octets ≡ text
  pub parts : p.parts ≤ length text
  pub shares : 65533 ≤ p.shares
  pub fresh : p.fresh ≡ true
  pub family : p.family ≡ h.pools.family
  pub rows : (s : Slot) → k.rows s ≡ h.rows s + p.rows s
  pub kept : (s : Slot) → 0 < p.rows s → (s.kind ≡ kind) × IsSome (h.pools.size kind)
  pub alone : (s : Slot) → 0 < p.rows s → h.rows s ≡ 0
  pub few : (n : ℕ) → used_of p.rows kind n ≤ pbufs_of kind (length text)
  pub free : IfSome (h.pools.size kind) (λ n. free_of k.rows kind n + pbufs_of kind (length text) ≡ free_of h.rows kind n)
  pub weighs : p.weight ≡ h.pools.weighs kind (length text)
  pub weight : k.weight + p.weight ≡ h.weight
  pub made_least : h.counts.made ≤ k.counts.made
  pub made_most : k.counts.made ≤ h.counts.made + pool_one kind
  pub made : IsSome (h.pools.places kind) → k.counts.made ≡ h.counts.made + pool_one kind
  pub asks : IsSome (h.pools.places kind) → k.counts.asked ≡ asked_after kind (length text) h.counts.asked
  pub refused : k.counts.refused ≡ h.counts.refused
  pub last_refused : k.counts.last_refused ≡ h.counts.last_refused

-- how many octets the last refused payload of POOL was to have, after one of n octets of this kind was refused
abbrev pub last_of : Kind → ℕ → ℕ → ℕ
last_of Ram n last = last
last_of Pool n last = n
last_of Rom n last = last
last_of Ref n last = last

-- a payload of n octets was refused as Empty: for POOL this is counted, and nothing else changed; by then more pbufs of
-- POOL were asked for than there are
pub record IsRefused (h k : HomeView) (kind : Kind) (n : ℕ) : Type 0 where
  pub rows : (s : Slot) → k.rows s ≡ h.rows s
  pub weight : k.weight ≡ h.weight
  pub made : k.counts.made ≡ h.counts.made
  pub refused : k.counts.refused ≡ h.counts.refused + pool_one kind
  pub last_refused : k.counts.last_refused ≡ last_of kind n h.counts.last_refused
  pub asks : IsSome (h.pools.places kind) → k.counts.asked ≡ asked_after kind n h.counts.asked
  pub asked : kind ≡ Pool → IfSome (h.pools.places kind) (λ places. places < k.counts.asked)

-- whatever a make of n octets answers, the pools stay, and the pbufs of POOL asked for grow by no more than it takes
pub record KeepsHome (h k : HomeView) (kind : Kind) (n : ℕ) : Type 0 where
  pub pools : k.pools ≡ h.pools
  pub asked_least : h.counts.asked ≤ k.counts.asked
  pub asked_most : k.counts.asked ≤ h.counts.asked + pool_one kind * pbufs_of kind n

-- the payload was cut or filled again, so that these octets are left: it has no more parts, no less room and no fewer
-- shares; the rows and the weight that it gave up went to the Home, and each pbuf of which it keeps a row has an octet left
pub record IsCut (h k : HomeView) (p q : View) (rest : List ℕ) : Type 0 where
  pub octets : q.octets ≡ rest
  pub parts : q.parts ≤ p.parts
  pub room : p.room ≤ q.room
  pub shares : p.shares ≤ q.shares
  pub family : q.family ≡ p.family
  pub fewer : (s : Slot) → q.rows s ≤ p.rows s
  pub few : (kind : Kind) (n : ℕ) → used_of q.rows kind n ≤ length rest
  pub rows : (s : Slot) → k.rows s + p.rows s ≡ h.rows s + q.rows s
  pub weight : k.weight + q.weight ≡ h.weight + p.weight
  pub pools : k.pools ≡ h.pools
  pub counts : k.counts ≡ h.counts

-- nothing of the payload changed but its room
pub record IsSameButRoom (p q : View) : Type 0 where
  pub octets : q.octets ≡ p.octets
  pub parts : q.parts ≡ p.parts
  pub shares : q.shares ≡ p.shares
  pub fresh : q.fresh ≡ p.fresh
  pub rows : (s : Slot) → q.rows s ≡ p.rows s
  pub weight : q.weight ≡ p.weight
  pub family : q.family ≡ p.family

-- p and behind it o became q: the octets, the parts, the rows and the weights of both; o's parts took of the room
pub record IsJoined (p o q : View) : Type 0 where
  pub octets : q.octets ≡ p.octets ++ o.octets
  pub parts : q.parts ≡ p.parts + o.parts
  pub room : p.room ≤ q.room + o.parts
  pub shares : min p.shares o.shares ≤ q.shares
  pub rows : (s : Slot) → q.rows s ≡ p.rows s + o.rows s
  pub weight : q.weight ≡ p.weight + o.weight
  pub family : q.family ≡ p.family

-- p was shared: it became q, and o is the share; both have the octets, the parts and the family that p had, and rows of
-- just the slots that it had rows of; one share at most is used up; the rows and the weights that o and q have more than p
-- had came out of the Home
pub record IsShared (h k : HomeView) (p q o : View) : Type 0 where
  pub octets : q.octets ≡ p.octets
  pub parts : q.parts ≡ p.parts
  pub room : p.room ≤ q.room
  pub shares : p.shares ≤ q.shares + 1
  pub own_slots : (s : Slot) → (0 < q.rows s) ↔ (0 < p.rows s)
  pub family : q.family ≡ p.family
  pub other_octets : o.octets ≡ p.octets
  pub other_parts : o.parts ≡ p.parts
  pub other_slots : (s : Slot) → (0 < o.rows s) ↔ (0 < p.rows s)
  pub other_family : o.family ≡ p.family
  pub rows : (s : Slot) → k.rows s + p.rows s ≡ h.rows s + q.rows s + o.rows s
  pub weight : k.weight + q.weight + o.weight ≡ h.weight + p.weight
  pub pools : k.pools ≡ h.pools
  pub counts : k.counts ≡ h.counts

-- p was given up: its rows and its weight went to the Home
pub record IsSpent (h k : HomeView) (p : View) : Type 0 where
  pub rows : (s : Slot) → k.rows s + p.rows s ≡ h.rows s
  pub weight : k.weight ≡ h.weight + p.weight
  pub pools : k.pools ≡ h.pools
  pub counts : k.counts ≡ h.counts
