-- The owner list: all holders of owners of pbufs. A pbuf's count is the number of its owners in it.
use Rattle.std.specs.Prelude.{◌≡◌, ℕ, zero, suc, ◌+◌, ◌≤◌, ◌==◌, cond, List, [], All, Contains, sum_by, count_by}
use Rattle.pbuf_counts.specs.declared.rule.View.{View}

-- the weight of all holders together, 2 ^ 120
abbrev pub whole : ℕ
whole = 1329227995784915872903807060280344576

-- the weight that a part takes, 2 ^ 100
abbrev pub part_weight : ℕ
part_weight = 1267650600228229401496703205376

-- the weight that a claim takes, 2 ^ 16
abbrev pub claim_weight : ℕ
claim_weight = 65536

-- so many owners a pbuf has at most, with the adds that its holders have left
abbrev pub most_owners : ℕ
most_owners = 65535

-- the adds of a pbuf's first owner
abbrev pub first_adds : ℕ
first_adds = 65534

-- a holder of one owner of the pbuf k
abbrev pub owner : ℕ → ℕ → ℕ → View
owner k adds weight = record { place = k; owners = 1; adds = adds; weight = weight; rights = 0; got = []; ended = []; found = [] }

-- a holder of no owner
abbrev pub idle : ℕ → ℕ → List ℕ → View
idle weight rights got = record { place = 0; owners = 0; adds = 0; weight = weight; rights = rights; got = got; ended = []; found = [] }

-- how many owners of the pbuf k the holder stands for
abbrev pub owns : ℕ → View → ℕ
owns k h = cond (h.place == k) h.owners 0

-- how many it may come to stand for: its owners and its adds left
abbrev pub may_own : ℕ → View → ℕ
may_own k h = cond (h.place == k) (h.owners + h.adds) 0

-- A pbuf's count is the number of its owners: of all that the holders stand for
abbrev pub count_of : ℕ → List View → ℕ
count_of k holders = sum_by (owns k) holders

-- how often k stands in the list
abbrev pub times : ℕ → List ℕ → ℕ
times k xs = count_by (λ x. x == k) xs

-- how many lives of the pbuf k have begun: each by a claim
abbrev pub begun : ℕ → List View → ℕ
begun k holders = sum_by (λ h. times k h.got) holders

-- how many lives of the pbuf k have ended: each by a drop that answered Last
abbrev pub over : ℕ → List View → ℕ
over k holders = sum_by (λ h. times k h.ended) holders

-- how many lives of a pbuf with this count go on: one where it has an owner, else none
abbrev pub living : ℕ → ℕ
living zero = 0
living (suc n) = 1

-- what is true of each holder
pub record Fits (h : View) : Type 0 where
  -- without an owner it has no adds
  pub idle : h.owners ≡ 0 → h.adds ≡ 0
  -- it weighs at least as much as it may come to have owners
  pub heavy : h.owners + h.adds ≤ h.weight
  -- one that weighs nothing can't claim, and has no Last to its name
  pub gone : h.weight ≡ 0 → (h.rights ≡ 0) × (h.ended ≡ [])
  -- the claims stand with the right to claim
  pub bare : h.rights ≡ 0 → h.got ≡ []

-- The owner list at one moment: these are all the holders that there are
pub record IsOwnerList (holders : List View) : Type 0 where
  -- no pbuf can come to have more than 65,535 owners
  pub limit : (k : ℕ) → sum_by (may_own k) holders ≤ most_owners
  -- Each life ends with exactly one Last: of the lives that began, all have ended but the one that goes on while the pbuf has an owner
  pub lives : (k : ℕ) → begun k holders ≡ over k holders + living (count_of k holders)
  -- one holder has the right to claim
  pub right : sum_by (λ h. h.rights) holders ≡ 1
  -- together they have the whole weight
  pub weights : sum_by (λ h. h.weight) holders ≡ whole
  pub each : All Fits holders

-- n was the count of the pbuf k while h was one of the holders
pub record IsCount (k : ℕ) (h : View) (n : ℕ) : Type 0 where
  pub holders : List View
  pub list : IsOwnerList holders
  pub stands : Contains holders h
  pub count : n ≡ count_of k holders
