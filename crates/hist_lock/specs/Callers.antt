-- What contracts see of a lock and of its callers.
use Rattle.std.specs.Prelude.{◌≡◌, ℕ, ◌+◌, ◌==◌, ◌<◌, count_by, List, [], ◌∷◌, ◌++◌, length, Option, Some}
use Rattle.atomic_table.specs.Seated.{TableId}
use Rattle.atomic_table.specs.declared.shared.Seat.{Seat}
use Rattle.hist_lock.specs.declared.table.Held.{Held}
use Rattle.hist_lock.specs.declared.table.Part.{Part}
use Rattle.hist_lock.specs.declared.table.View.{View}
use Rattle.hist_lock.specs.declared.table.Stage.TheVariants.{Idle}
use Rattle.hist_lock.specs.Histories.{Legal, made_by}
use Rattle.hist_lock.specs.Views.{alone, part_of}

-- A caller: of which lock, and of which object at its start; its number, how many it has split off, what it has seen of the history, and its own entries
pub record Known (O E : Type 0) : Type 0 where
  pub lock : TableId
  pub start : Option O
  pub number : ℕ
  pub splits : ℕ
  pub seen : List E
  pub mine : List E

-- a lock: which one, and its object at the start
pub record Begun (O : Type 0) : Type 0 where
  pub lock : TableId
  pub start : O

-- the words and the slot of the table
abbrev pub IsBoard : TableId → Type 0
IsBoard z = (z.words ≡ 16) × (z.slots ≡ 1)

-- the caller has one entry more, at the end of what it has seen, which tells the event and the reply
abbrev pub AddsTo : {E Ev R : Type 0} → (E → ℕ) → (E → Ev → R → Type 0) → Part E → Ev → R → Part E → Type 0
AddsTo {E} by tells p ev r q = (e : E) × (q ≡ record p { seen = p.seen ++ e ∷ []; mine = p.mine ++ e ∷ [] }) × (by e ≡ p.number) × tells e ev r

module _ {O E : Type 0} where
  -- what contracts see of a caller, from its seat, its number and its count of splits
  abbrev pub known : Seat (Held O E) (View O E) → ℕ → ℕ → Known O E
  known s number splits = let p : Part E = part_of s.me.0 in record { lock = s.table_id; start = s.me.0.start; number = number; splits = splits; seen = p.seen; mine = p.mine }

  -- what a seat keeps of a caller
  abbrev pub part_from : Known O E → Part E
  part_from c = record { number = c.number; splits = c.splits; seen = c.seen; mine = c.mine }

  -- the seat of a caller between two calls
  abbrev pub IsResting : Seat (Held O E) (View O E) → ℕ → ℕ → Type 0
  IsResting s number splits = s.me ≡ (alone s.me.0.start Idle (part_from (known s number splits)), [])

  -- the caller is one of this lock
  abbrev pub IsCallerOf : Begun O → Known O E → Type 0
  IsCallerOf l c = (c.lock ≡ l.lock) × (c.start ≡ Some l.start)

  -- the same caller of the same lock, whatever it has seen and made since
  abbrev pub IsSameCaller : Known O E → Known O E → Type 0
  IsSameCaller c d = (d.lock ≡ c.lock) × (d.start ≡ c.start) × (d.number ≡ c.number) × (d.splits ≡ c.splits)

  -- Beyond what had been seen the history has entries of others, and then one of this caller, which tells the event and the reply
  abbrev pub Extends : {Ev R : Type 0} → (E → ℕ) → (E → Ev → R → Type 0) → Known O E → Ev → R → Known O E → Type 0
  Extends by tells c ev r d = (between : List E) × (e : E) × (d.seen ≡ (c.seen ++ between) ++ e ∷ []) × (d.mine ≡ c.mine ++ e ∷ []) × (by e ≡ c.number) × tells e ev r

  -- what the caller has seen is legal, and has of its entries just those that it made
  abbrev pub HasHistory : {S : Type 0} → (O → S) → (E → ℕ) → (S → E → S → Type 0) → O → Known O E → Type 0
  HasHistory {S} state by steps start c = ((t : S) × Legal steps (state start) c.seen t) × (made_by by c.number c.seen ≡ c.mine)

  -- all the callers of a lock, of which the first is at the head
  abbrev pub IsAll : List (Known O E) → Type 0
  IsAll [] = ⊥
  IsAll (c ∷ cs) = (c.number ≡ 0) × (c.splits + 1 ≡ length (c ∷ cs))

-- each number below the length stands once
abbrev pub IsNumbered : List ℕ → Type 0
IsNumbered ns = (n : ℕ) → n < length ns → count_by (λ m. m == n) ns ≡ 1
