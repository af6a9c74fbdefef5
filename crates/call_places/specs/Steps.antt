-- A step of a call: where an answer leads, and the lines that this writes.
use Rattle.std.specs.Prelude.{ℕ, ◌+◌, ◌==◌, Bool, true, false, List, [], ◌∷◌, ◌++◌, Option, Some, None, if◌then◌else◌}
use Rattle.lw_base.specs.declared.errors.Err.{Err}
use Rattle.lw_base.specs.declared.errors.Err.TheVariants.{Val}
use Rattle.lw_events.specs.declared.event.Event.{Event}
use Rattle.lw_events.specs.declared.event.Reply.{Reply}
use Rattle.lw_events.specs.declared.event.Reply.TheVariants.{Done as DoneReply, Conn as ConnReply, Fd as FdReply, Wrote, Count as CountReply, Ticks as TicksReply, Addr as AddrReply, Frames, Fail as FailReply}
use Rattle.call_types.specs.declared.outcome.Outcome.{Outcome}
use Rattle.call_types.specs.declared.outcome.Outcome.TheVariants.{Ok as OkOutcome, Conn as ConnOutcome, Fd as FdOutcome, Sent, Addr as AddrOutcome, Fail}
use Rattle.call_places.specs.declared.place.Seen.{Seen}
use Rattle.call_places.specs.declared.place.Seen.TheVariants.{Core}
use Rattle.call_places.specs.declared.place.Then.{Then}
use Rattle.call_places.specs.declared.place.Place.{Place}
use Rattle.call_places.specs.declared.place.Place.TheVariants.{Make, Done}
use Rattle.call_places.specs.declared.place.Step.{Step}

-- a call goes on there, and has written this
abbrev pub to : Place → List Seen → Step
to next lines = record { next = next; wrote = lines }

-- a call ends so
abbrev pub ends : Outcome → List Seen → Step
ends result lines = to (Done result) lines

-- an answer of another kind than the call asked for
abbrev pub stray : Step
stray = ends (Fail Val) []

-- a failure of that code
abbrev pub fails : Err → List Seen → Step
fails code lines = ends (Fail code) lines

-- a call makes an event whose line stands alone
abbrev pub makes : Event (List ℕ) → Then → Place
makes event after = Make event after []

-- what a reply says as a result; how often a signal came, how many ticks and how many frames there were say only that
-- it is done
abbrev pub outcome_of : Reply → Outcome
outcome_of DoneReply = OkOutcome
outcome_of (ConnReply conn) = ConnOutcome conn
outcome_of (FdReply fd) = FdOutcome fd
outcome_of (Wrote n) = Sent n
outcome_of (CountReply n) = OkOutcome
outcome_of (TicksReply n) = OkOutcome
outcome_of (AddrReply ip port) = AddrOutcome ip port
outcome_of (Frames n) = OkOutcome
outcome_of (FailReply code) = Fail code

-- this result where the reply is `ok`, else what the reply says
abbrev pub outcome_or : Outcome → Reply → Outcome
outcome_or result DoneReply = result
outcome_or result reply = outcome_of reply

-- lines with a core line behind them
abbrev pub with_core : List Seen → List Seen
with_core held = held ++ Core ∷ []
