use Rattle.std.specs.Prelude.{◌≡◌, ℕ, ◌^◌, ◌<◌, ◌≤◌, List, length}
use Rattle.std.specs.List.{sum_by, All}
use Rattle.lw_payload.specs.Views.{Slot, View, HomeView}

-- Of a list of payloads, each of which is seen by `seen`.

-- how many rows they have together at a slot
abbrev pub rows_of : {P : Type 0} → (P → View) → List P → Slot → ℕ
rows_of seen ps s = sum_by (λ p. (seen p).rows s) ps

-- what they weigh together
abbrev pub weight_of : {P : Type 0} → (P → View) → List P → ℕ
weight_of seen ps = sum_by (λ p. (seen p).weight) ps

-- they may be given with this Home one after another: each is short enough and of the Home's family, and their rows
-- together are among those that the Home gave out
pub record AreOf {P : Type 0} (seen : P → View) (h : HomeView) (ps : List P) : Type 0 where
  pub short : All (λ p. length (seen p).octets < 2 ^ 32) ps
  pub family : All (λ p. (seen p).family ≡ h.pools.family) ps
  pub listed : (s : Slot) → rows_of seen ps s ≤ h.rows s
