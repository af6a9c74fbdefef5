-- What payloads come to together, and how that moves between them and their Home.
use Rattle.std.specs.Prelude.{◌≡◌, ℕ, ◌+◌, ◌^◌, ◌≤◌, ◌&&◌, List, length, nat_lt, bytes_eq, if◌then◌else◌}
use Rattle.std.specs.List.{sum_by}
use Rattle.lw_payload.specs.Views.{Slot, View, HomeView}
use Rattle.lw_payload.specs.Lists.{rows_of, weight_of}

-- what payloads come to together: how many rows they have of each slot, what they weigh, and how many are strangers
pub record Total : Type 0 where
  pub rows : Slot → ℕ
  pub weight : ℕ
  pub strangers : ℕ

-- 1 for a payload that isn't of this family or has 2^32 octets or more: a stranger to the family's Homes
abbrev pub stranger : List ℕ → View → ℕ
stranger family p = if bytes_eq p.family family && nat_lt (length p.octets) (2 ^ 32) then 0 else 1

-- what the payloads of a list, each seen by `seen`, come to for the Homes of a family
abbrev pub total : {P : Type 0} → (P → View) → List ℕ → List P → Total
total seen family ps = record { rows = rows_of seen ps; weight = weight_of seen ps; strangers = sum_by (λ p. stranger family (seen p)) ps }

-- t is u and v together
pub record IsSum (t u v : Total) : Type 0 where
  pub rows : (s : Slot) → t.rows s ≡ u.rows s + v.rows s
  pub weight : t.weight ≡ u.weight + v.weight
  pub strangers : t.strangers ≡ u.strangers + v.strangers

-- t and u are the same, whatever the payloads
pub record IsSameTotal (t u : Total) : Type 0 where
  pub rows : (s : Slot) → t.rows s ≡ u.rows s
  pub weight : t.weight ≡ u.weight
  pub strangers : t.strangers ≡ u.strangers

-- all that comes to t may be given with the Home, in any order: no stranger is among it, and it has no more rows than the
-- Home gave out
pub record IsOwned (h : HomeView) (t : Total) : Type 0 where
  pub rows : (s : Slot) → t.rows s ≤ h.rows s
  pub strangers : t.strangers ≡ 0

-- While the Home h became k, what came to t before came to u: the rows and the weight that went from the payloads went to
-- the Home, those that came to them came out of it, and no stranger came
pub record Moves (h k : HomeView) (t u : Total) : Type 0 where
  pub rows : (s : Slot) → k.rows s + t.rows s ≡ h.rows s + u.rows s
  pub weight : k.weight + u.weight ≡ h.weight + t.weight
  pub pools : k.pools ≡ h.pools
  pub counts : k.counts ≡ h.counts
  pub strangers : u.strangers ≤ t.strangers
