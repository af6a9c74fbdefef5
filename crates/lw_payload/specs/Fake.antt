use Rattle.std.specs.Prelude.{◌≡◌, ℕ, ◌+◌, ◌==◌, Bool, true, List, [], ◌∷◌, length, Some, None, slice_index, if◌then◌else◌}
use Rattle.std.specs.List.{count_by}
use Rattle.lw_payload.specs.declared.kinds.Kind.{Kind}
use Rattle.lw_payload.specs.declared.kinds.Kind.TheVariants.{Ram, Pool, Rom, Ref}
use Rattle.lw_payload.specs.Views.{Slot, Pools}

-- a number for each kind
abbrev pub number_of : Kind → ℕ
number_of Ram = 0
number_of Pool = 1
number_of Rom = 2
number_of Ref = 3

-- whether two kinds are the same
abbrev pub same_kind : Kind → Kind → Bool
same_kind a b = number_of a == number_of b

-- how often a place stands in a list of places
abbrev pub times : ℕ → List ℕ → ℕ
times place places = count_by (λ p. p == place) places

-- how many of the counts are 0
abbrev pub free_count : List ℕ → ℕ
free_count counts = count_by (λ n. n == 0) counts

-- the rows of pbufs of one kind that have these counts
abbrev pub counted_rows : Kind → List ℕ → Slot → ℕ
counted_rows kept counts s = if same_kind s.kind kept then slice_index counts s.place else 0

-- the rows of a payload that is an owner at these places
abbrev pub held_rows : Kind → List ℕ → Slot → ℕ
held_rows kept places s = if same_kind s.kind kept then times s.place places else 0

-- pools that keep one kind alone: so many pbufs of it, with so many octets at most in a payload; each kind is made
abbrev pub one_kept : List ℕ → Kind → ℕ → ℕ → Pools
one_kept family kept size longest = record {
  family = family;
  makes = λ _. true;
  places = λ kind. if same_kind kind kept then Some size else None;
  size = λ kind. if same_kind kind kept then Some size else None;
  longest = λ _. Some longest;
  weighs = λ _ _. 0;
}

-- the family of a number and of the kind that is kept
abbrev pub family_of : ℕ → Kind → List ℕ
family_of number kept = number ∷ number_of kept ∷ []

-- counts before and after: at each place as many owners went as stand in `given`, and as many came as stand in `taken`
pub record Hands (before after given taken : List ℕ) : Type 0 where
  pub same : length after ≡ length before
  pub each : (place : ℕ) → slice_index after place + times place given ≡ slice_index before place + times place taken
