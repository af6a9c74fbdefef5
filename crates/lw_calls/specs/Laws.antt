-- Laws of the machine, in the words of its subject.
use Rattle.std.specs.Prelude.{ℕ, ◌≡◌, ◌+◌, List, [], ◌∷◌}
use Rattle.call_types.specs.declared.outcome.Outcome.{Outcome}
use Rattle.call_places.specs.declared.asks.Answer.{Answer}
use Rattle.call_places.specs.declared.place.Seen.{Seen}
use Rattle.call_places.specs.declared.place.Seen.TheVariants.{Core, Sight}
use Rattle.call_places.specs.declared.place.Timing.{Timing}
use Rattle.call_places.specs.declared.place.Want.{Want}
use Rattle.call_places.specs.declared.place.Want.TheVariants.{Signal, Accept, Read, Connected, Room, Scan as ScanWant}
use Rattle.call_places.specs.declared.place.Stage.{Stage}
use Rattle.call_places.specs.declared.place.Place.TheVariants.{Waits, Done}
use Rattle.lw_calls.specs.Machine.{steps}

-- how many of the lines are core lines
abbrev pub cores : List Seen → ℕ
cores [] = 0
cores (Core ∷ lines) = 1 + cores lines
cores (Sight sight ∷ lines) = cores lines

-- the lines that a wait holds: those of its scan
abbrev pub held_by : Want → List Seen
held_by (Signal awaiting) = []
held_by (Accept accepting) = []
held_by (Read reading) = []
held_by (Connected conn) = []
held_by (Room sending) = []
held_by (ScanWant scan) = scan.shown

-- a look of a wait writes no core line, so a call that ends at a look makes no event after it; and a call that has ended
-- stays so and writes nothing
pub record LookLaw : Type 0 where
  pub look : (stage : Stage) (want : Want) (timing : Timing) (x : Answer) → cores (held_by want) ≡ 0 → cores (steps (Waits stage want timing) x).wrote ≡ 0
  pub stays : (result : Outcome) (x : Answer) → (steps (Done result) x).next ≡ Done result
  pub quiet : (result : Outcome) (x : Answer) → (steps (Done result) x).wrote ≡ []
