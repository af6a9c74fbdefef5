-- What an event asks of a stack.
use Rattle.std.specs.Prelude.{List, ℕ}
use Rattle.lw_payload.specs.Views.{View}
use Rattle.lw_events.specs.declared.event.Event.{Event}
use Rattle.lw_events.specs.declared.event.Event.TheVariants.{Frame, Tick as TickEvent, SendTo, New, Close as CloseEvent, Stop}
use Rattle.lw_events.specs.declared.event.Proto.TheVariants.{Udp}
use Rattle.lw_events.specs.Events.{text_of}
use Rattle.lw_core.specs.declared.request.Request.{Request}
use Rattle.lw_core.specs.declared.request.Request.TheVariants.{Feed, Tick, Send, Make, Close, End, Answer}

-- a frame is to be taken in, a tick to pass, a datagram to be sent, a connection of UDP to be made, one to be closed, the run to end; any other event asks for an answer
abbrev pub request_of : {P : Type 0} → (P → View) → Event P → Request P
request_of seen (Frame p) = Feed p
request_of seen TickEvent = Tick
request_of seen (SendTo conn ip port given) = Send conn ip port given
request_of seen (New Udp) = Make
request_of seen (CloseEvent conn) = Close conn
request_of seen Stop = End
request_of seen other = Answer (text_of seen other)
