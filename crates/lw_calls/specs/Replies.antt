-- What the reply to a call's event leads to.
use Rattle.std.specs.Prelude.{ℕ, ◌+◌, ◌-◌, ◌==◌, Bool, true, false, List, [], Option, Some, None, length, slice_get}
use Rattle.lw_base.specs.declared.errors.Err.{Err}
use Rattle.lw_base.specs.declared.errors.Err.TheVariants.{Mem, InProgress}
use Rattle.lw_events.specs.declared.event.Event.{Event}
use Rattle.lw_events.specs.declared.event.Event.TheVariants.{Tick, OpenFd, SetVar, Close}
use Rattle.lw_events.specs.declared.event.Handle.TheVariants.{Conn as ConnHandle, Fd as FdHandle}
use Rattle.lw_events.specs.declared.event.Reply.{Reply}
use Rattle.lw_events.specs.declared.event.Reply.TheVariants.{Done as DoneReply, Conn as ConnReply, Fd as FdReply, Fail as FailReply}
use Rattle.call_types.specs.declared.call.Interface.{Interface}
use Rattle.call_types.specs.declared.call.Interface.TheVariants.{Socket, Netconn}
use Rattle.call_types.specs.declared.outcome.Outcome.TheVariants.{Ok as OkOutcome, Conn as ConnOutcome, Fd as FdOutcome, Fail}
use Rattle.call_places.specs.declared.place.Seen.{Seen}
use Rattle.call_places.specs.declared.place.Want.TheVariants.{Connected}
use Rattle.call_places.specs.declared.place.Then.{Then}
use Rattle.call_places.specs.declared.place.Then.TheVariants.{Answer, Gives, Ends, Ticks, Made, Opened, Freed, Closed, Each, Connecting, Taken, Failed}
use Rattle.call_places.specs.declared.place.Place.{Place}
use Rattle.call_places.specs.declared.place.Place.TheVariants.{Make, Empty, Done}
use Rattle.call_places.specs.declared.place.Step.{Step}
use Rattle.call_places.specs.Steps.{to, ends, fails, makes, outcome_of, outcome_or, with_core}
use Rattle.call_places.specs.Waits.{waiting, timed, read_end}
use Rattle.call_places.specs.Reads.{read_more}

-- one tick more, or all were made
abbrev pub ticks_on : Bool → ℕ → List Seen → Step
ticks_on true more lines = ends OkOutcome lines
ticks_on false more lines = to (makes Tick (Ticks (more - 1))) lines

-- a new connection gets its descriptor, or its variable
abbrev pub names_new : Interface → ℕ → ℕ → Place
names_new Socket var conn = makes (OpenFd conn) (Opened var conn)
names_new Netconn var conn = makes (SetVar var (ConnHandle conn)) (Gives (ConnOutcome conn))

-- what the reply to New leads to
abbrev pub after_new : Interface → ℕ → List Seen → Reply → Step
after_new interface var lines (ConnReply conn) = to (names_new interface var conn) lines
after_new interface var lines reply = ends (outcome_of reply) lines

-- one more event of a call: where lines were held its line is held with them, since all stand together
abbrev pub makes_next : Bool → Event (List ℕ) → Then → List Seen → Step
makes_next true event after lines = to (Make event after []) lines
makes_next false event after lines = to (Make event after lines) []

-- one more event, whose line is held where lines are
abbrev pub follows : Event (List ℕ) → Then → List Seen → Step
follows event after held = makes_next (length held == 0) event after (with_core held)

-- without a free descriptor the connection is closed again
abbrev pub is_full : Err → Bool
is_full Mem = true
is_full code = false

-- what a failed OpenFd leads to: where no descriptor is free the connection is closed again
abbrev pub open_failed : Bool → Err → ℕ → List Seen → Step
open_failed true code conn held = follows (Close conn) (Ends (Fail code)) held
open_failed false code conn held = fails code (with_core held)

-- the reply is the result
abbrev pub ends_so : List Seen → Reply → Step
ends_so held reply = ends (outcome_of reply) (with_core held)

-- a descriptor gets its variable
abbrev pub after_open : ℕ → ℕ → List Seen → Reply → Step
after_open var conn held (FdReply fd) = follows (SetVar var (FdHandle fd)) (Gives (FdOutcome fd)) held
after_open var conn held (FailReply code) = open_failed (is_full code) code conn held
after_open var conn held reply = ends_so held reply

-- the connection of the freed descriptor is closed
abbrev pub after_free : List Seen → Reply → Step
after_free lines (ConnReply conn) = to (makes (Close conn) (Closed conn)) lines
after_free lines reply = ends (outcome_of reply) lines

-- a closed connection's mailbox is emptied
abbrev pub after_close : ℕ → List Seen → Reply → Step
after_close conn lines DoneReply = to (Empty conn) lines
after_close conn lines reply = ends (outcome_of reply) lines

-- connections are closed one after another, from this place of their list on
abbrev pub close_one : Option ℕ → List ℕ → ℕ → Place
close_one (Some conn) conns at = makes (Close conn) (Each conns (at + 1))
close_one None conns at = Done OkOutcome

-- these connections are closed, from a place of the list on
abbrev pub closes : List ℕ → ℕ → Place
closes conns at = close_one (slice_get conns at) conns at

-- a connect that is in progress waits, unless its descriptor doesn't wait
abbrev pub in_progress : Bool → ℕ → List Seen → Step
in_progress true conn lines = fails InProgress lines
in_progress false conn lines = to (waiting (Connected conn) (timed None None)) lines

-- the answer that says that a connect goes on
abbrev pub is_in_progress : Err → Bool
is_in_progress InProgress = true
is_in_progress code = false

-- what a failed Connect leads to
abbrev pub connect_failed : Bool → Err → ℕ → Bool → List Seen → Step
connect_failed true code conn nonblock lines = in_progress nonblock conn lines
connect_failed false code conn nonblock lines = fails code lines

-- what the reply to Connect leads to
abbrev pub after_connect : ℕ → Bool → List Seen → Reply → Step
after_connect conn nonblock lines (FailReply code) = connect_failed (is_in_progress code) code conn nonblock lines
after_connect conn nonblock lines reply = ends (outcome_of reply) lines

-- what the reply to an event leads to
abbrev pub after_reply : Then → List Seen → Reply → Step
after_reply Answer held reply = ends_so held reply
after_reply (Gives result) held reply = ends (outcome_or result reply) (with_core held)
after_reply (Ends result) held reply = ends result (with_core held)
after_reply (Ticks more) held reply = ticks_on (more == 0) more (with_core held)
after_reply (Made interface var) held reply = after_new interface var (with_core held) reply
after_reply (Opened var conn) held reply = after_open var conn held reply
after_reply Freed held reply = after_free (with_core held) reply
after_reply (Closed conn) held reply = after_close conn (with_core held) reply
after_reply (Each conns at) held reply = to (closes conns at) (with_core held)
after_reply (Connecting conn nonblock) held reply = after_connect conn nonblock (with_core held) reply
after_reply (Taken reading timing n) held reply = read_more reading timing n (with_core held)
after_reply (Failed got) held reply = ends (read_end got (outcome_of reply)) (with_core held)
