-- Events over payloads, and what is kept of them.
use Rattle.std.specs.Prelude.{◌≡◌, ℕ, Bool, true, false, List, [], ◌∷◌, map}
use Rattle.std.specs.List.{AllZip}
use Rattle.lw_payload.specs.Views.{View}
use Rattle.lw_payload.specs.Calls.{IsSameButRoom}
use Rattle.lw_events.specs.declared.event.Event.{Event}
use Rattle.lw_events.specs.declared.event.Event.TheVariants.{Frame, Tick, New, Bind, Connect, Listen, Write, SendTo, Recved, Shutdown, Close, GetError, GetAddr, NoDelay, OpenFd, SetFd, CloseFd, SetVar, Signal, Sent, Stop}
use Rattle.lw_events.specs.declared.entry.Post.{Post}
use Rattle.lw_events.specs.declared.entry.Post.TheVariants.{Item, Full}
use Rattle.lw_events.specs.declared.entry.Entry.{Entry}

-- an event with the octets of its payload
abbrev pub text_of : {P : Type 0} → (P → View) → Event P → Event (List ℕ)
text_of seen (Frame p) = Frame (seen p).octets
text_of seen Tick = Tick
text_of seen (New proto) = New proto
text_of seen (Bind conn ip port) = Bind conn ip port
text_of seen (Connect conn ip port) = Connect conn ip port
text_of seen (Listen conn) = Listen conn
text_of seen (Write conn octets) = Write conn octets
text_of seen (SendTo conn ip port octets) = SendTo conn ip port octets
text_of seen (Recved conn n) = Recved conn n
text_of seen (Shutdown conn) = Shutdown conn
text_of seen (Close conn) = Close conn
text_of seen (GetError conn) = GetError conn
text_of seen (GetAddr conn which) = GetAddr conn which
text_of seen (NoDelay conn on) = NoDelay conn on
text_of seen (OpenFd conn) = OpenFd conn
text_of seen (SetFd fd option) = SetFd fd option
text_of seen (CloseFd fd) = CloseFd fd
text_of seen (SetVar var handle) = SetVar var handle
text_of seen (Signal signal) = Signal signal
text_of seen (Sent n) = Sent n
text_of seen Stop = Stop

-- the payload of an event, if it has one
abbrev pub payloads_in : {P : Type 0} → Event P → List P
payloads_in (Frame p) = p ∷ []
payloads_in other = []

-- the same event: equal text, and its payload the same but for room
pub record IsSameEvent {P : Type 0} (seen : P → View) (before after : Event P) : Type 0 where
  pub text : text_of seen after ≡ text_of seen before
  pub payloads : AllZip (λ p q. IsSameButRoom (seen p) (seen q)) (payloads_in before) (payloads_in after)

-- a post had a place
abbrev pub had_place : Post → Bool
had_place (Item conn ticket text) = true
had_place (Full conn) = false

-- what the step of an entry was granted: whether the pool was short for it, and for each post in the order tried whether
-- there was a place. With it the step is determined
pub record Grants : Type 0 where
  pub short : Bool
  pub places : List Bool

-- what an entry tells of its grants
abbrev pub grants_of : Entry → Grants
grants_of e = record { short = e.short; places = map had_place e.posts }
