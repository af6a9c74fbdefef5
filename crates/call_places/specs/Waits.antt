-- A wait: a loop of tries, and what stands between them.
use Rattle.std.specs.Prelude.{ℕ, ◌+◌, ◌==◌, nat_le, Bool, true, false, List, [], ◌∷◌, ◌++◌, Option, Some, None, if◌then◌else◌}
use Rattle.lw_base.specs.declared.errors.Err.{Err}
use Rattle.lw_base.specs.declared.errors.Err.TheVariants.{WouldBlock, Abrt, Timeout}
use Rattle.call_types.specs.declared.outcome.Outcome.{Outcome}
use Rattle.call_types.specs.declared.outcome.Outcome.TheVariants.{Nothing, Fail, Read as ReadOutcome}
use Rattle.call_types.specs.declared.sight.Sight.TheVariants.{Ticks as TicksSight, Stopped as StoppedSight}
use Rattle.call_places.specs.declared.asks.Turn.{Turn}
use Rattle.call_places.specs.declared.asks.Turn.TheVariants.{GoOn, GiveUp}
use Rattle.call_places.specs.declared.place.Seen.{Seen}
use Rattle.call_places.specs.declared.place.Seen.TheVariants.{Sight}
use Rattle.call_places.specs.declared.place.Caller.{Caller}
use Rattle.call_places.specs.declared.place.Caller.TheVariants.{Actor, Driver, Wire}
use Rattle.call_places.specs.declared.place.Awaiting.{Awaiting}
use Rattle.call_places.specs.declared.place.Reading.{Reading}
use Rattle.call_places.specs.declared.place.Timing.{Timing}
use Rattle.call_places.specs.declared.place.Want.{Want}
use Rattle.call_places.specs.declared.place.Want.TheVariants.{Signal, Accept, Read, Connected, Room, Scan as ScanWant}
use Rattle.call_places.specs.declared.place.Due.{Due}
use Rattle.call_places.specs.declared.place.Due.TheVariants.{AtOnce, Stopped, Time, GivenUp}
use Rattle.call_places.specs.declared.place.Stage.{Stage}
use Rattle.call_places.specs.declared.place.Stage.TheVariants.{Try, Begin, Stop, Now, Pause}
use Rattle.call_places.specs.declared.place.Place.{Place}
use Rattle.call_places.specs.declared.place.Place.TheVariants.{Waits, Write}
use Rattle.call_places.specs.declared.place.Step.{Step}
use Rattle.call_places.specs.Steps.{to, ends}

-- How a wait begins

-- a wait that no tick has ended yet
abbrev pub timed : Option ℕ → Option Due → Timing
timed limit due = record { limit = limit; begun = None; due = due }

-- a wait at its first try
abbrev pub waiting : Want → Timing → Place
waiting want timing = Waits Try want timing

-- a descriptor's timeout of 0 is no limit
abbrev pub limit_of : ℕ → Option ℕ
limit_of timeout = if timeout == 0 then None else Some timeout

-- a descriptor that doesn't wait makes one try
abbrev pub due_of : Bool → Option Due
due_of true = Some AtOnce
due_of false = None

-- How a try in vain goes on

-- recvall ends by what it has, if it has octets; what else was got is nothing
abbrev pub read_end : ℕ → Outcome → Outcome
read_end got result = if got == 0 then result else ReadOutcome got

-- a wait in which a try may be several looks
abbrev pub is_scan : Want → Bool
is_scan (Signal awaiting) = false
is_scan (Accept accepting) = false
is_scan (Read reading) = false
is_scan (Connected conn) = false
is_scan (Room sending) = false
is_scan (ScanWant scan) = true

-- the code of a wait that is over
abbrev pub code_of_due : Due → Err
code_of_due AtOnce = WouldBlock
code_of_due Stopped = Abrt
code_of_due (Time now) = Timeout
code_of_due GivenUp = Abrt

-- what a wait gives whose last try was in vain
abbrev pub last_of : Want → Due → Outcome
last_of (Signal awaiting) due = Fail (code_of_due due)
last_of (Accept accepting) due = Fail (code_of_due due)
last_of (Read reading) due = read_end reading.got (Fail (code_of_due due))
last_of (Connected conn) due = Fail (code_of_due due)
last_of (Room sending) due = Fail (code_of_due due)
last_of (ScanWant scan) due = Nothing

-- the ticks that ended a wait; a scan's first look at them is written with the last
abbrev pub time_lines : Bool → Option ℕ → ℕ → List Seen
time_lines true (Some begun) now = Sight (TicksSight begun) ∷ Sight (TicksSight now) ∷ []
time_lines true None now = Sight (TicksSight now) ∷ []
time_lines false begun now = Sight (TicksSight now) ∷ []

-- the lines of the look that made a wait due
abbrev pub due_lines : Bool → Option ℕ → Due → List Seen
due_lines scan begun AtOnce = []
due_lines scan begun Stopped = Sight StoppedSight ∷ []
due_lines scan begun (Time now) = time_lines scan begun now
due_lines scan begun GivenUp = []

-- the driver and a wire look at nothing between their tries
abbrev pub is_no_actor : Caller → Bool
is_no_actor Actor = false
is_no_actor Driver = true
is_no_actor (Wire side) = true

-- only a wait for a signal is made by the driver or a wire
abbrev pub skips_looks : Want → Bool
skips_looks (Signal awaiting) = is_no_actor awaiting.caller
skips_looks (Accept accepting) = false
skips_looks (Read reading) = false
skips_looks (Connected conn) = false
skips_looks (Room sending) = false
skips_looks (ScanWant scan) = false

-- what comes after a try in vain that isn't the last: a turn of the others, or the ticks where there is a limit and they weren't looked at yet,
-- else the stop word
abbrev pub looks : Bool → Option ℕ → Option ℕ → Stage
looks true limit begun = Pause
looks false (Some limit) None = Begin
looks false (Some limit) (Some begun) = Stop
looks false None begun = Stop

-- a wait goes on after a try in vain
abbrev pub goes_on : Want → Timing → Step
goes_on want timing =
    to (Waits (looks (skips_looks want) timing.limit timing.begun) want (record { limit = timing.limit; begun = timing.begun; due = None })) []

-- a try found nothing: where the wait is due it ends, and its last look and this try are written
abbrev pub vain_by : Option Due → Want → Timing → List Seen → Step
vain_by (Some due) want timing lines = ends (last_of want due) (due_lines (is_scan want) timing.begun due ++ lines)
vain_by None want timing lines = goes_on want timing

-- what a wait does where its try found nothing
abbrev pub vain : Want → Timing → List Seen → Step
vain want timing lines = vain_by timing.due want timing lines

-- The looks between two tries

-- the ticks at the begin of a wait; a select writes them at its end
abbrev pub begin_lines : Bool → ℕ → List Seen
begin_lines true begun = []
begin_lines false begun = Sight (TicksSight begun) ∷ []

-- what a wait does with the ticks at its begin
abbrev pub after_begin : Want → Timing → ℕ → Step
after_begin want timing now =
    to (Waits Stop want (record { limit = timing.limit; begun = Some now; due = timing.due })) (begin_lines (is_scan want) now)

-- one try more after the stop word was set; a send writes once more
abbrev pub last_try : Want → Timing → Place
last_try (Signal awaiting) timing = Waits Try (Signal awaiting) timing
last_try (Accept accepting) timing = Waits Try (Accept accepting) timing
last_try (Read reading) timing = Waits Try (Read reading) timing
last_try (Connected conn) timing = Waits Try (Connected conn) timing
last_try (Room sending) timing = Write sending timing.due []
last_try (ScanWant scan) timing = Waits Try (ScanWant scan) timing

-- a wait is due
abbrev pub made_due : Timing → Option Due → Timing
made_due timing due = record { limit = timing.limit; begun = timing.begun; due = due }

-- the ticks are looked at where there is a limit
abbrev pub past_stop : Option ℕ → Stage
past_stop (Some limit) = Now
past_stop None = Pause

-- what a wait does with the stop word
abbrev pub after_stop : Want → Timing → Bool → Step
after_stop want timing true = to (last_try want (made_due timing (Some Stopped))) []
after_stop want timing false = to (Waits (past_stop timing.limit) want timing) []

-- the limit is over
abbrev pub has_passed : Option ℕ → Option ℕ → ℕ → Bool
has_passed (Some limit) (Some begun) now = nat_le (begun + limit) now
has_passed (Some limit) None now = false
has_passed None begun now = false

-- a last try where the limit is over, else a turn of the others
abbrev pub now_place : Bool → Want → Timing → ℕ → Place
now_place true want timing now = Waits Try want (made_due timing (Some (Time now)))
now_place false want timing now = Waits Pause want timing

-- what a wait does with the ticks behind its begin
abbrev pub after_now : Want → Timing → ℕ → Step
after_now want timing now = to (now_place (has_passed timing.limit timing.begun now) want timing now) []

-- the driver alone gives up
abbrev pub is_driver : Caller → Bool
is_driver Actor = false
is_driver Driver = true
is_driver (Wire side) = false

-- only a wait of the driver for a signal can be given up
abbrev pub can_give_up : Want → Bool
can_give_up (Signal awaiting) = is_driver awaiting.caller
can_give_up (Accept accepting) = false
can_give_up (Read reading) = false
can_give_up (Connected conn) = false
can_give_up (Room sending) = false
can_give_up (ScanWant scan) = false

-- a wait that is given up is due; one that can't be is as before
abbrev pub given_up : Bool → Option Due → Option Due
given_up true due = Some GivenUp
given_up false due = due

-- what a wait does at its next turn
abbrev pub after_pause : Want → Timing → Turn → Step
after_pause want timing GoOn = to (Waits Try want timing) []
after_pause want timing GiveUp = to (Waits Try want (made_due timing (given_up (can_give_up want) timing.due))) []
