-- Sends: a stream's octets are written again and again until all are accepted.
use Rattle.std.specs.Prelude.{ℕ, ◌+◌, ◌==◌, ◌||◌, nat_le, Bool, true, false, List, [], ◌∷◌, ◌++◌, Option, Some, None, if◌then◌else◌, length, drop}
use Rattle.lw_base.specs.declared.errors.Err.{Err}
use Rattle.lw_base.specs.declared.errors.Err.TheVariants.{WouldBlock, Abrt}
use Rattle.lw_base.specs.declared.event_word.Word.{Word}
use Rattle.lw_base.specs.declared.event_word.Flag.TheVariants.{Writable, Fault, Closed}
use Rattle.lw_base.specs.EventWord.{is_set}
use Rattle.lw_events.specs.declared.event.Reply.{Reply}
use Rattle.lw_events.specs.declared.event.Reply.TheVariants.{Done as DoneReply, Conn as ConnReply, Fd as FdReply, Wrote, Count as CountReply, Ticks as TicksReply, Addr as AddrReply, Frames, Fail as FailReply}
use Rattle.call_types.specs.declared.outcome.Outcome.{Outcome}
use Rattle.call_types.specs.declared.outcome.Outcome.TheVariants.{Sent, Fail}
use Rattle.call_types.specs.declared.sight.Sight.TheVariants.{Stopped as StoppedSight}
use Rattle.call_places.specs.declared.place.Seen.{Seen}
use Rattle.call_places.specs.declared.place.Seen.TheVariants.{Sight}
use Rattle.call_places.specs.declared.place.Sending.{Sending}
use Rattle.call_places.specs.declared.place.Timing.{Timing}
use Rattle.call_places.specs.declared.place.Due.{Due}
use Rattle.call_places.specs.declared.place.Due.TheVariants.{AtOnce, Stopped, Time, GivenUp}
use Rattle.call_places.specs.declared.place.Want.TheVariants.{Room}
use Rattle.call_places.specs.declared.place.Place.{Place}
use Rattle.call_places.specs.declared.place.Place.TheVariants.{Write}
use Rattle.call_places.specs.declared.place.Step.{Step}
use Rattle.call_places.specs.Steps.{to, ends, outcome_of, with_core}
use Rattle.call_places.specs.Waits.{waiting, timed, goes_on}

-- how a send ends that can go on no more: by what was accepted, if anything was
abbrev pub sent_or : ℕ → Outcome → Outcome
sent_or sent result = if sent == 0 then result else Sent sent

-- the octets behind the first n are left
abbrev pub after_octets : Sending → ℕ → Sending
after_octets sending n = record { conn = sending.conn; rest = drop n sending.rest; sent = sending.sent + n }

-- the next write: after the stop word was set its lines are held, since they stand behind `stopped` if one is written
abbrev pub next_write : Option Due → Sending → List Seen → Step
next_write (Some AtOnce) sending lines = to (Write sending (Some AtOnce) []) lines
next_write (Some Stopped) sending lines = to (Write sending (Some Stopped) lines) []
next_write (Some (Time now)) sending lines = to (Write sending (Some (Time now)) []) lines
next_write (Some GivenUp) sending lines = to (Write sending (Some GivenUp) []) lines
next_write None sending lines = to (Write sending None []) lines

-- so many octets were accepted: all, or not all
abbrev pub wrote_by : Bool → Sending → Option Due → List Seen → ℕ → Step
wrote_by true sending due lines n = ends (Sent (sending.sent + n)) lines
wrote_by false sending due lines n = next_write due (after_octets sending n) lines

-- so many octets were accepted, of those that were left
abbrev pub wrote_some : Sending → Option Due → List Seen → ℕ → Step
wrote_some sending due lines n = wrote_by (nat_le (length sending.rest) n) sending due lines n

-- a send that doesn't wait ends where nothing fits
abbrev pub blocked : ℕ → List Seen → Step
blocked sent lines = ends (sent_or sent (Fail WouldBlock)) lines

-- nothing fits: the call waits for room, or it ends as it doesn't wait or the stop word was set
abbrev pub would_block : Option Due → Sending → List Seen → Step
would_block (Some AtOnce) sending lines = blocked sending.sent lines
would_block (Some Stopped) sending lines = ends (sent_or sending.sent (Fail Abrt)) (Sight StoppedSight ∷ lines)
would_block (Some (Time now)) sending lines = blocked sending.sent lines
would_block (Some GivenUp) sending lines = blocked sending.sent lines
would_block None sending lines = to (waiting (Room sending) (timed None None)) lines

-- a write failed
abbrev pub write_failed : Bool → Err → Sending → Option Due → List Seen → Step
write_failed true code sending due lines = would_block due sending lines
write_failed false code sending due lines = ends (sent_or sending.sent (Fail code)) lines

-- the refusal that says that nothing fits
abbrev pub is_would_block : Err → Bool
is_would_block WouldBlock = true
is_would_block code = false

-- a send ends with a reply that no write has
abbrev pub ends_with : ℕ → Reply → List Seen → Step
ends_with sent reply lines = ends (sent_or sent (outcome_of reply)) lines

-- what the reply to a write leads to
abbrev pub wrote_with : Sending → Option Due → List Seen → Reply → Step
wrote_with sending due lines (Wrote n) = wrote_some sending due lines n
wrote_with sending due lines (FailReply code) = write_failed (is_would_block code) code sending due lines
wrote_with sending due lines DoneReply = ends_with sending.sent DoneReply lines
wrote_with sending due lines (ConnReply n) = ends_with sending.sent (ConnReply n) lines
wrote_with sending due lines (FdReply n) = ends_with sending.sent (FdReply n) lines
wrote_with sending due lines (CountReply n) = ends_with sending.sent (CountReply n) lines
wrote_with sending due lines (TicksReply n) = ends_with sending.sent (TicksReply n) lines
wrote_with sending due lines (AddrReply ip port) = ends_with sending.sent (AddrReply ip port) lines
wrote_with sending due lines (Frames n) = ends_with sending.sent (Frames n) lines

-- what a send does with the reply to its write
abbrev pub after_write : Sending → Option Due → List Seen → Reply → Step
after_write sending due held reply = wrote_with sending due (with_core held) reply

-- a send looks for room, or for a fault or the close that the next write tells
abbrev pub may_write : Word → Bool
may_write word = is_set Writable word.flags || is_set Fault word.flags || is_set Closed word.flags

-- a send writes where it may, else it waits on
abbrev pub room_by : Bool → Sending → Timing → Step
room_by true sending timing = to (Write sending None []) []
room_by false sending timing = goes_on (Room sending) timing

-- what a send that waits for room does with the event word
abbrev pub after_room : Sending → Timing → Word → Step
after_room sending timing word = room_by (may_write word) sending timing
