-- What callers see of a reply place and of the rights of its two sides.
use Rattle.std.specs.Prelude.{◌≡◌, ℕ, Option, Some}
use Rattle.atomic_table.specs.Seated.{TableId}

-- a place: which one, and what its replies answer
pub record Named (K : Type 0) : Type 0 where
  pub place : TableId
  pub key : K

-- a side of a place: how many replies went through its hands
pub record Side (K : Type 0) : Type 0 where
  pub place : TableId
  pub key : Option K
  pub count : ℕ

-- the side is of this place
abbrev pub IsOf : {K : Type 0} → Named K → Side K → Type 0
IsOf b s = (s.place ≡ b.place) × (s.key ≡ Some b.key)
