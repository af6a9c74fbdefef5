-- What a call does with the connection or the descriptor that its variable names.
use Rattle.std.specs.Prelude.{ℕ, ◌+◌, ◌%◌, ◌==◌, Bool, true, false, List, [], ◌∷◌, Option, Some, None, length, map}
use Rattle.std.specs.List.{range_with_len}
use Rattle.lw_base.specs.declared.addresses.Ip.{Ip}
use Rattle.lw_base.specs.declared.addresses.Port.{Port}
use Rattle.lw_base.specs.declared.errors.Err.TheVariants.{Val, Conn as ConnErr}
use Rattle.lw_events.specs.declared.event.Event.TheVariants.{Bind as BindEvent, Connect as ConnectEvent, Listen as ListenEvent, SendTo as SendToEvent, Shutdown as ShutdownEvent, Close as CloseEvent, GetAddr as GetAddrEvent, NoDelay as NoDelayEvent, SetFd, CloseFd}
use Rattle.lw_events.specs.declared.event.Handle.{Handle}
use Rattle.lw_events.specs.declared.event.Handle.TheVariants.{Conn as ConnHandle, Fd as FdHandle}
use Rattle.lw_events.specs.declared.event.Proto.{Proto}
use Rattle.lw_events.specs.declared.event.Proto.TheVariants.{Tcp, Udp}
use Rattle.lw_events.specs.declared.event.SendData.{SendData}
use Rattle.lw_events.specs.declared.event.SendData.TheVariants.{Literal, Fill as FillData}
use Rattle.call_types.specs.declared.call.Data.{Data}
use Rattle.call_types.specs.declared.call.Data.TheVariants.{Spelled, Fill}
use Rattle.call_types.specs.declared.outcome.Outcome.TheVariants.{Sent, Fail}
use Rattle.call_types.specs.declared.sight.Sight.TheVariants.{Var as VarSight, Fdw as FdSight}
use Rattle.call_places.specs.declared.asks.Named.{Named}
use Rattle.call_places.specs.declared.asks.FdWord.{FdWord}
use Rattle.call_places.specs.declared.place.Seen.{Seen}
use Rattle.call_places.specs.declared.place.Seen.TheVariants.{Sight}
use Rattle.call_places.specs.declared.place.Target.{Target}
use Rattle.call_places.specs.declared.place.ReadKind.{ReadKind}
use Rattle.call_places.specs.declared.place.ReadKind.TheVariants.{Once, All, From, Item}
use Rattle.call_places.specs.declared.place.Use.{Use}
use Rattle.call_places.specs.declared.place.Use.TheVariants.{Bind, Connect, Listen, Accept, Send, SendTo, Read, TryItem, Shutdown, Close, NoDelay, GetAddr}
use Rattle.call_places.specs.declared.place.FdUse.{FdUse}
use Rattle.call_places.specs.declared.place.FdUse.TheVariants.{OfConn, Close as CloseFdUse, Set, Select}
use Rattle.call_places.specs.declared.place.VarUse.{VarUse}
use Rattle.call_places.specs.declared.place.VarUse.TheVariants.{OfConn as OfConnVar, OfFd}
use Rattle.call_places.specs.declared.place.Timing.{Timing}
use Rattle.call_places.specs.declared.place.Due.TheVariants.{AtOnce}
use Rattle.call_places.specs.declared.place.Want.TheVariants.{Accept as AcceptWant, Read as ReadWant}
use Rattle.call_places.specs.declared.place.Then.TheVariants.{Answer, Gives, Connecting, Closed, Freed}
use Rattle.call_places.specs.declared.place.Place.{Place}
use Rattle.call_places.specs.declared.place.Place.TheVariants.{Fd as FdPlace, Write, Done}
use Rattle.call_places.specs.declared.place.Step.{Step}
use Rattle.call_places.specs.Steps.{to, fails, makes}
use Rattle.call_places.specs.Waits.{waiting, timed, limit_of, due_of}
use Rattle.call_places.specs.Selects.{selects, with_target}

-- The octets that a call sends

-- octet i of a rule is its first octet and i, modulo 256
abbrev pub filled : ℕ → ℕ → List ℕ
filled count first = map (λ i. (first + i) % 256) (range_with_len 0 count)

-- the octets that data stands for
abbrev pub octets_of : Data → List ℕ
octets_of (Spelled octets) = octets
octets_of (Fill count first) = filled count first

-- how many octets data stands for
abbrev pub count_of : Data → ℕ
count_of (Spelled octets) = length octets
count_of (Fill count first) = count

-- what the event of a datagram has: octets that are spelled are described by ROM, those of a rule by REF
abbrev pub send_data : Data → SendData
send_data (Spelled octets) = Literal octets
send_data (Fill count first) = FillData (filled count first)

-- What is done with a connection

-- one datagram, to this address
abbrev pub sends_to : ℕ → Ip → Port → Data → Place
sends_to conn ip port octets = makes (SendToEvent conn ip port (send_data octets)) (Gives (Sent (count_of octets)))

-- a send writes a stream's octets; of UDP it is one datagram to the connected peer
abbrev pub sends : Proto → Target → Data → Place
sends Tcp target octets = Write (record { conn = target.conn; rest = octets_of octets; sent = 0 }) (due_of target.nonblock) []
sends Udp target octets = sends_to target.conn (record { 0 = 0 }) (record { 0 = 0 }) octets

-- accepts and receives wait as their descriptor says
abbrev pub fd_timing : Target → Timing
fd_timing target = timed (limit_of target.timeout) (due_of target.nonblock)

-- a receive of TCP has no sender to tell
abbrev pub has_kind : Proto → ReadKind → Bool
has_kind Tcp Once = true
has_kind Tcp All = true
has_kind Tcp From = false
has_kind Tcp Item = true
has_kind Udp kind = true

-- a receive waits for what is posted; a kind that the transport doesn't have is VAL
abbrev pub reads_by : Bool → Target → ReadKind → ℕ → Timing → Place
reads_by true target kind count timing = waiting (ReadWant (record { conn = target.conn; kind = kind; count = count; got = 0 })) timing
reads_by false target kind count timing = Done (Fail Val)

-- a receive on a connection
abbrev pub reads : Target → ReadKind → ℕ → Timing → Place
reads target kind count timing = reads_by (has_kind target.proto kind) target kind count timing

-- what a call does with its connection
abbrev pub does : Use → Target → Place
does (Bind ip port) target = makes (BindEvent target.conn ip port) Answer
does (Connect ip port) target = makes (ConnectEvent target.conn ip port) (Connecting target.conn target.nonblock)
does Listen target = makes (ListenEvent target.conn) Answer
does (Accept interface var) target =
    waiting (AcceptWant (record { conn = target.conn; var = var; interface = interface })) (fd_timing target)
does (Send octets) target = sends target.proto target octets
does (SendTo ip port octets) target = sends_to target.conn ip port octets
does (Read kind count) target = reads target kind count (fd_timing target)
does TryItem target = reads target Item 0 (timed None (Some AtOnce))
does Shutdown target = makes (ShutdownEvent target.conn) Answer
does Close target = makes (CloseEvent target.conn) (Closed target.conn)
does (NoDelay on) target = makes (NoDelayEvent target.conn on) Answer
does (GetAddr which) target = makes (GetAddrEvent target.conn which) Answer

-- The looks at a variable and a descriptor

-- a connection of a netconn call waits without end
abbrev pub netconn_target : ℕ → Proto → Target
netconn_target conn proto = record { conn = conn; nonblock = false; timeout = 0; proto = proto }

-- a connection as its descriptor's word says
abbrev pub fd_target : FdWord → Target
fd_target word = record { conn = word.conn; nonblock = word.nonblock; timeout = word.timeout; proto = word.proto }

-- the line of a variable's word
abbrev pub var_line : ℕ → Option Handle → List Seen
var_line var handle = Sight (VarSight var handle) ∷ []

-- a netconn call wants a connection, a socket call a descriptor, whose word is looked at next
abbrev pub conn_handle : Handle → ℕ → Proto → Use → Step
conn_handle (ConnHandle conn) var proto use_ = to (does use_ (netconn_target conn proto)) (var_line var (Some (ConnHandle conn)))
conn_handle (FdHandle fd) var proto use_ = fails Val (var_line var (Some (FdHandle fd)))

-- a variable that a socket call looks at names a descriptor
abbrev pub fd_handle : Handle → ℕ → FdUse → Step
fd_handle (ConnHandle conn) var use_ = fails Val (var_line var (Some (ConnHandle conn)))
fd_handle (FdHandle fd) var use_ = to (FdPlace var fd use_) []

-- what a variable's word leads to, by what it is looked at for
abbrev pub var_handle : VarUse → ℕ → Named → Step
var_handle (OfConnVar use_) var named = conn_handle named.handle var named.proto use_
var_handle (OfFd use_) var named = fd_handle named.handle var use_

-- what a variable's word leads to
abbrev pub after_var : ℕ → VarUse → Option Named → Step
after_var var use_ None = fails ConnErr (var_line var None)
after_var var use_ (Some named) = var_handle use_ var named

-- what a call does with its descriptor
abbrev pub fd_does : FdUse → ℕ → FdWord → Place
fd_does (OfConn use_) fd word = does use_ (fd_target word)
fd_does CloseFdUse fd word = makes (CloseFd fd) Freed
fd_does (Set option) fd word = makes (SetFd fd option) Answer
fd_does (Select selecting item) fd word = selects (with_target selecting item word.conn)

-- the lines of a variable's word and its descriptor's
abbrev pub fd_lines : ℕ → ℕ → FdWord → List Seen
fd_lines var fd word =
    Sight (VarSight var (Some (FdHandle fd))) ∷ Sight (FdSight fd word.conn word.nonblock word.timeout) ∷ []

-- a free descriptor ends the call
abbrev pub fd_place : Bool → ℕ → FdUse → FdWord → Place
fd_place true fd use_ word = Done (Fail ConnErr)
fd_place false fd use_ word = fd_does use_ fd word

-- what a descriptor's word leads to; it is free where it is of connection 0
abbrev pub after_fd : ℕ → ℕ → FdUse → FdWord → Step
after_fd var fd use_ word = to (fd_place (word.conn == 0) fd use_ word) (fd_lines var fd word)
