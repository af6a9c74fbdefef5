-- What the seats at the table know, and how it changes where one is split in two or two are joined.
use Rattle.std.specs.Prelude.{ℕ, ◌+◌, ◌==◌, count_by, List, [], ◌∷◌, ◌++◌, Option, Some, None}
use Rattle.hist_lock.specs.declared.table.Part.{Part}
use Rattle.hist_lock.specs.declared.table.View.{View}
use Rattle.hist_lock.specs.declared.table.Stage.{Stage}
use Rattle.hist_lock.specs.declared.table.Stage.TheVariants.{Idle, Inside}
use Rattle.hist_lock.specs.Histories.{made_by}

-- 1 for a seat that has the lock
abbrev pub enters : Stage → ℕ
enters Idle = 0
enters Inside = 1

module _ {E : Type 0} where
  -- what is known of no caller yet
  abbrev pub no_part : Part E
  no_part = record { number = 0; splits = 0; seen = []; mine = [] }

  -- the first of a seat's callers
  abbrev pub first_part : List (Part E) → Part E
  first_part [] = no_part
  first_part (p ∷ ps) = p

  -- the caller has seen this history, and the entries of its own are those in it
  abbrev pub up_to : (E → ℕ) → List E → Part E → Part E
  up_to by log p = record p { seen = log; mine = made_by by p.number log }

  -- the first has split off one caller more
  abbrev pub one_more : List (Part E) → List (Part E)
  one_more [] = []
  one_more (p ∷ ps) = record p { splits = p.splits + 1 } ∷ ps

  -- the caller that the first splits off
  abbrev pub newborn : List (Part E) → List (Part E)
  newborn [] = []
  newborn (p ∷ ps) = record { number = p.splits + 1; splits = 0; seen = p.seen; mine = [] } ∷ []

module _ {O E : Type 0} where
  -- how many callers of the number n the seat speaks for
  abbrev pub having : ℕ → View O E → ℕ
  having n v = count_by (λ p. p.number == n) v.parts

  -- a seat of one caller, which was told nothing
  abbrev pub alone : Option O → Stage → Part E → View O E
  alone start stage p = record { start = start; stage = stage; told = []; parts = p ∷ [] }

  -- what is known of the seat's first caller
  abbrev pub part_of : View O E → Part E
  part_of v = first_part v.parts

  -- the first seat
  abbrev pub newcomer : O → View O E
  newcomer start = alone (Some start) Idle no_part

  -- the seat, after its caller has split off one more
  abbrev pub with_one_more : View O E → View O E
  with_one_more v = record v { parts = one_more v.parts }

  -- the seat of the caller that was split off
  abbrev pub newest : View O E → View O E
  newest v = record { start = v.start; stage = Idle; told = []; parts = newborn v.parts }

  -- a seat of no caller, which has been told what this one has seen
  abbrev pub note_of : View O E → View O E
  note_of v = record { start = v.start; stage = Idle; told = (part_of v).seen; parts = [] }

  -- the seat, which has been told what the other one was
  abbrev pub informed : View O E → View O E → View O E
  informed v w = record v { told = w.told }

  -- the seat, with the callers of the other one
  abbrev pub gathered : View O E → View O E → View O E
  gathered v w = record v { parts = w.parts ++ v.parts }

  -- what is left of a seat that was joined to another
  abbrev pub spent : View O E
  spent = record { start = None; stage = Idle; told = []; parts = [] }
