-- What the events of calls that send nothing answer, and the connections after them (lwIP's api_msg.c).
use Rattle.std.specs.Prelude.{◌≡◌, ℕ, ◌<◌, List, drop, length, Option, Some, None}
use Rattle.lw_base.specs.declared.errors.Err.TheVariants.{Conn as NoConn, Val}
use Rattle.lw_base.specs.declared.limits.Limits.{Limits}
use Rattle.lw_events.specs.declared.event.Event.{Event}
use Rattle.lw_events.specs.declared.event.Event.TheVariants.{Frame, Tick, New, Bind, Connect, Listen, Write, SendTo, Recved, Shutdown, Close, GetError, GetAddr, NoDelay, OpenFd, SetFd, CloseFd, SetVar, Signal, Sent, Stop}
use Rattle.lw_events.specs.declared.event.Proto.TheVariants.{Tcp, Udp}
use Rattle.lw_events.specs.declared.event.Reply.TheVariants.{Frames}
use Rattle.lw_api_msg.specs.Endpoints.{Answer, bind, close, closefd, connect, getaddr, geterror, new_udp, of_streams, openfd, recved, setfd, setvar, signalled}
use Rattle.lw_input.specs.State.{State}

-- how many frames were sent after the first n, 0 where there are fewer
abbrev pub sent_after : ℕ → List (List ℕ) → ℕ
sent_after n sent = length (drop n sent)

-- what an event answers that looks at the connections and their names, or changes them, and what they are after it; none for an
-- event of another kind. All connections are of UDP: the events for streams alone refuse them
abbrev pub call_answer : State → Event (List ℕ) → Option Answer
call_answer s (New Udp) = Some (new_udp s.limits s.endpoints)
call_answer s (Bind conn ip port) = Some (bind s.link.net.ip s.endpoints conn ip port)
call_answer s (Connect conn ip port) = Some (connect s.link.net s.endpoints conn ip port)
call_answer s (Listen conn) = Some (of_streams s.endpoints conn Val, s.endpoints)
call_answer s (Write conn octets) = Some (of_streams s.endpoints conn Val, s.endpoints)
call_answer s (Recved conn n) = Some (recved s.endpoints conn, s.endpoints)
call_answer s (Shutdown conn) = Some (of_streams s.endpoints conn NoConn, s.endpoints)
call_answer s (Close conn) = Some (close s.endpoints conn)
call_answer s (GetError conn) = Some (geterror s.endpoints conn, s.endpoints)
call_answer s (GetAddr conn which) = Some (getaddr s.endpoints conn which, s.endpoints)
call_answer s (NoDelay conn on) = Some (of_streams s.endpoints conn Val, s.endpoints)
call_answer s (OpenFd conn) = Some (openfd s.endpoints conn)
call_answer s (SetFd fd option) = Some (setfd s.endpoints fd option)
call_answer s (CloseFd fd) = Some (closefd s.endpoints fd)
call_answer s (SetVar var handle) = Some (setvar s.endpoints var handle)
call_answer s (Signal signal) = Some (signalled s.endpoints signal)
call_answer s (Sent n) = Some (Frames (sent_after n s.sent), s.endpoints)
call_answer s other = None

-- the events that the stack has by now. A variable is one of those that there are, and a signal one of the sixteen
abbrev pub IsServed : {P : Type 0} → Limits → Event P → Type 0
IsServed limits (SetVar var handle) = var < limits.variables
IsServed limits (Signal signal) = signal < 16
IsServed limits (New Tcp) = ⊥
IsServed limits other = Unit {0}

-- those of them that are answered at once, with nothing taken in, sent, made, closed or ended
abbrev pub IsAsking : Limits → Event (List ℕ) → Type 0
IsAsking limits (Frame octets) = ⊥
IsAsking limits Tick = ⊥
IsAsking limits (SendTo conn ip port given) = ⊥
IsAsking limits (New proto) = ⊥
IsAsking limits (Close conn) = ⊥
IsAsking limits Stop = ⊥
IsAsking limits other = IsServed limits other

-- there are as many variables as the limits say
abbrev pub HasVariables : State → Type 0
HasVariables s = length s.endpoints.vars ≡ s.limits.variables
