-- Receives and accepts, and the tries of the other waits.
use Rattle.std.specs.Prelude.{ℕ, ◌+◌, ◌-◌, ◌==◌, ◌||◌, ◌&&◌, nat_le, nat_lt, not, Bool, true, false, List, [], ◌∷◌, ◌++◌, Option, Some, None, if◌then◌else◌, length}
use Rattle.lw_base.specs.declared.addresses.Ip.{Ip}
use Rattle.lw_base.specs.declared.addresses.Port.{Port}
use Rattle.lw_base.specs.declared.errors.Err.TheVariants.{Conn as ConnErr, Val}
use Rattle.lw_base.specs.declared.event_word.Word.{Word}
use Rattle.lw_base.specs.declared.event_word.Flag.TheVariants.{Writable, Ended, Fault, Closed, Listen, Idle}
use Rattle.lw_base.specs.EventWord.{is_set}
use Rattle.lw_events.specs.declared.event.Event.TheVariants.{GetError, Recved, OpenFd, SetVar}
use Rattle.lw_events.specs.declared.event.Handle.TheVariants.{Conn as ConnHandle}
use Rattle.call_types.specs.declared.call.Interface.{Interface}
use Rattle.call_types.specs.declared.call.Interface.TheVariants.{Socket, Netconn}
use Rattle.call_types.specs.declared.outcome.Outcome.{Outcome}
use Rattle.call_types.specs.declared.outcome.Outcome.TheVariants.{Ok as OkOutcome, Conn as ConnOutcome, From as FromOutcome, Read as ReadOutcome, Fail}
use Rattle.call_types.specs.declared.sight.Sight.TheVariants.{Take as TakeSight, Datagram as DatagramSight, Accepted as AcceptedSight, Saw, Count as CountSight}
use Rattle.call_places.specs.declared.asks.Piece.{Piece}
use Rattle.call_places.specs.declared.asks.Piece.TheVariants.{Segment, Datagram, Accepted, Nothing}
use Rattle.call_places.specs.declared.place.Seen.{Seen}
use Rattle.call_places.specs.declared.place.Seen.TheVariants.{Sight}
use Rattle.call_places.specs.declared.place.ReadKind.{ReadKind}
use Rattle.call_places.specs.declared.place.ReadKind.TheVariants.{Once, All, From, Item}
use Rattle.call_places.specs.declared.place.Awaiting.{Awaiting}
use Rattle.call_places.specs.declared.place.Accepting.{Accepting}
use Rattle.call_places.specs.declared.place.Reading.{Reading}
use Rattle.call_places.specs.declared.place.Timing.{Timing}
use Rattle.call_places.specs.declared.place.Due.{Due}
use Rattle.call_places.specs.declared.place.Due.TheVariants.{AtOnce, Stopped, Time, GivenUp}
use Rattle.call_places.specs.declared.place.Want.{Want}
use Rattle.call_places.specs.declared.place.Want.TheVariants.{Signal, Accept, Read, Connected}
use Rattle.call_places.specs.declared.place.Then.{Then}
use Rattle.call_places.specs.declared.place.Then.TheVariants.{Gives, Opened, Taken, Failed}
use Rattle.call_places.specs.declared.place.Place.{Place}
use Rattle.call_places.specs.declared.place.Place.TheVariants.{Make, Waits}
use Rattle.call_places.specs.declared.place.Step.{Step}
use Rattle.call_places.specs.Steps.{to, ends, fails}
use Rattle.call_places.specs.Waits.{waiting, vain, read_end}

-- a look at an event word, as the one line of it
abbrev pub saw : ℕ → Word → List Seen
saw conn word = Sight (Saw conn word) ∷ []

-- octets that were taken, as the one line of it
abbrev pub took : ℕ → ℕ → ℕ → List ℕ → List Seen
took conn ticket from octets = Sight (TakeSight conn ticket from octets) ∷ []

-- a datagram that was taken, as the one line of it
abbrev pub got_datagram : ℕ → ℕ → Ip → Port → List ℕ → List Seen
got_datagram conn ticket ip port octets = Sight (DatagramSight conn ticket ip port octets) ∷ []

-- an accepted connection that was taken, as the one line of it
abbrev pub accepted : ℕ → ℕ → ℕ → List Seen
accepted conn ticket fresh = Sight (AcceptedSight conn ticket fresh) ∷ []

-- the fault of a connection ends a call that saw it
abbrev pub asks_fault : ℕ → ℕ → Word → Step
asks_fault conn got word = to (Make (GetError conn) (Failed got) (saw conn word)) []

-- Signals

-- a wait for a signal ends as it came so often
abbrev pub counted : Bool → Awaiting → Timing → ℕ → Step
counted true awaiting timing n = ends OkOutcome (Sight (CountSight awaiting.signal n) ∷ [])
counted false awaiting timing n = vain (Signal awaiting) timing (Sight (CountSight awaiting.signal n) ∷ [])

-- what a wait for a signal does with how often it came
abbrev pub after_count : Awaiting → Timing → ℕ → Step
after_count awaiting timing n = counted (nat_le awaiting.count n) awaiting timing n

-- Connects

-- a connect that was in progress ends as the connection is closed, has a fault, or has room for octets
abbrev pub connect_looks : Bool → Bool → Bool → ℕ → Timing → Word → Step
connect_looks true fault is_open conn timing word = fails ConnErr (saw conn word)
connect_looks false true is_open conn timing word = asks_fault conn 0 word
connect_looks false false true conn timing word = ends OkOutcome (saw conn word)
connect_looks false false false conn timing word = vain (Connected conn) timing (saw conn word)

-- what a connect does with the event word
abbrev pub after_connect_look : ℕ → Timing → Word → Step
after_connect_look conn timing word =
    connect_looks (is_set Closed word.flags) (is_set Fault word.flags) (is_set Writable word.flags) conn timing word

-- Accepts

-- an accepted connection gets its descriptor and its variable, or its variable alone
abbrev pub names_accepted : Interface → ℕ → ℕ → List Seen → Place
names_accepted Socket var fresh held = Make (OpenFd fresh) (Opened var fresh) held
names_accepted Netconn var fresh held = Make (SetVar var (ConnHandle fresh)) (Gives (ConnOutcome fresh)) held

-- nothing to accept: a closed connection and one that doesn't listen end the call
abbrev pub none_accepted : Bool → Bool → Accepting → Timing → Word → Step
none_accepted true listens accepting timing word = fails ConnErr (saw accepting.conn word)
none_accepted false false accepting timing word = fails Val (saw accepting.conn word)
none_accepted false true accepting timing word = vain (Accept accepting) timing (saw accepting.conn word)

-- what an accept does with what it took; an item of another kind is none that it can use
abbrev pub after_accept : Accepting → Timing → Piece → Step
after_accept accepting timing (Segment ticket from octets) = fails Val (took accepting.conn ticket from octets)
after_accept accepting timing (Datagram ticket ip port octets) = fails Val (got_datagram accepting.conn ticket ip port octets)
after_accept accepting timing (Accepted ticket fresh) =
    to (names_accepted accepting.interface accepting.var fresh (accepted accepting.conn ticket fresh)) []
after_accept accepting timing (Nothing word) =
    none_accepted (is_set Closed word.flags) (is_set Listen word.flags) accepting timing word

-- Receives

-- a wait that doesn't wait stays so after a piece; a look at the ticks or the stop word counts no more
abbrev pub due_again : Option Due → Option Due
due_again (Some AtOnce) = Some AtOnce
due_again (Some Stopped) = None
due_again (Some (Time now)) = None
due_again (Some GivenUp) = None
due_again None = None

-- recvall goes on while octets are wanted
abbrev pub wants_more : ReadKind → ℕ → ℕ → Bool
wants_more Once got count = false
wants_more All got count = nat_lt got count
wants_more From got count = false
wants_more Item got count = false

-- a receive has so many octets: it goes on, or ends
abbrev pub read_so_far : Bool → Reading → Timing → ℕ → List Seen → Step
read_so_far true reading timing got lines =
    to (waiting (Read (record { conn = reading.conn; kind = reading.kind; count = reading.count; got = got }))
    (record { limit = timing.limit; begun = timing.begun; due = due_again timing.due })) lines
read_so_far false reading timing got lines = ends (ReadOutcome got) lines

-- a receive has so many octets more
abbrev pub read_more : Reading → Timing → ℕ → List Seen → Step
read_more reading timing more lines =
    read_so_far (wants_more reading.kind (reading.got + more) reading.count) reading timing (reading.got + more) lines

-- octets of TCP are given back to the window
abbrev pub gives_back : Reading → Timing → ℕ → List Seen → Step
gives_back reading timing n held = to (Make (Recved reading.conn n) (Taken reading timing n) held) []

-- recvfrom has no use for octets of TCP
abbrev pub read_segment : ReadKind → Reading → Timing → ℕ → List Seen → Step
read_segment Once reading timing n lines = gives_back reading timing n lines
read_segment All reading timing n lines = gives_back reading timing n lines
read_segment From reading timing n lines = fails Val lines
read_segment Item reading timing n lines = gives_back reading timing n lines

-- a datagram without octets ends a recvall
abbrev pub read_octets : Bool → Reading → Timing → ℕ → List Seen → Step
read_octets true reading timing n lines = ends (ReadOutcome reading.got) lines
read_octets false reading timing n lines = read_more reading timing n lines

-- recvfrom tells the sender, the other receives the octets alone
abbrev pub read_datagram : ReadKind → Reading → Timing → Ip → Port → ℕ → List Seen → Step
read_datagram Once reading timing ip port n lines = read_octets (n == 0) reading timing n lines
read_datagram All reading timing ip port n lines = read_octets (n == 0) reading timing n lines
read_datagram From reading timing ip port n lines = ends (FromOutcome ip port n) lines
read_datagram Item reading timing ip port n lines = read_octets (n == 0) reading timing n lines

-- nothing is untaken: a connection that is closed, listens or was never connected ends the call, then a fault does, then
-- the end of what the other side sent
abbrev pub none_read : Bool → Bool → Bool → Reading → Timing → Word → Step
none_read true fault ended reading timing word = ends (read_end reading.got (Fail ConnErr)) (saw reading.conn word)
none_read false true ended reading timing word = asks_fault reading.conn reading.got word
none_read false false true reading timing word = ends (ReadOutcome reading.got) (saw reading.conn word)
none_read false false false reading timing word = vain (Read reading) timing (saw reading.conn word)

-- a word of a connection that gives nothing any more: closed, listening, or never connected
abbrev pub is_unreadable : Word → Bool
is_unreadable word = is_set Closed word.flags || is_set Listen word.flags || is_set Idle word.flags

-- what a receive does with what it took
abbrev pub after_read : Reading → Timing → Piece → Step
after_read reading timing (Segment ticket from octets) =
    read_segment reading.kind reading timing (length octets) (took reading.conn ticket from octets)
after_read reading timing (Datagram ticket ip port octets) =
    read_datagram reading.kind reading timing ip port (length octets) (got_datagram reading.conn ticket ip port octets)
after_read reading timing (Accepted ticket fresh) = fails Val (accepted reading.conn ticket fresh)
after_read reading timing (Nothing word) =
    none_read (is_unreadable word) (is_set Fault word.flags) (is_set Ended word.flags) reading timing word
