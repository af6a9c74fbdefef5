-- The connections of a stack with their ends and names, and what the calls that send nothing make of them.
use Rattle.std.specs.Prelude.{◌≡◌, ℕ, ◌==◌, ◌&&◌, not, Bool, true, false, if◌then◌else◌, List, [], Option, Some, None, is_some, Result, Ok, Err}
use Rattle.std.specs.Option.{option_map_or}
use Rattle.lw_base.specs.declared.addresses.Ip.{Ip}
use Rattle.lw_base.specs.declared.addresses.Port.{Port}
use Rattle.lw_base.specs.declared.addresses.Net.{Net}
use Rattle.lw_base.specs.declared.errors.Err.{Err as Code}
use Rattle.lw_base.specs.declared.errors.Err.TheVariants.{Mem, Val, Conn as NoConn}
use Rattle.lw_base.specs.declared.limits.Limits.{Limits}
use Rattle.lw_netif.specs.Hosts.{is_host}
use Rattle.lw_netif.specs.Route.{route_of}
use Rattle.lw_events.specs.declared.event.Proto.{Proto}
use Rattle.lw_events.specs.declared.event.Proto.TheVariants.{Tcp, Udp}
use Rattle.lw_events.specs.declared.event.Which.{Which}
use Rattle.lw_events.specs.declared.event.Which.TheVariants.{Local, Remote}
use Rattle.lw_events.specs.declared.event.FdOption.{FdOption}
use Rattle.lw_events.specs.declared.event.Handle.{Handle}
use Rattle.lw_events.specs.declared.event.Handle.TheVariants.{Conn as OfConn, Fd as OfFd}
use Rattle.lw_events.specs.declared.event.Reply.{Reply}
use Rattle.lw_events.specs.declared.event.Reply.TheVariants.{Done, Conn, Fd, Count, Addr, Fail}
use Rattle.lw_conn.specs.declared.connections.Connection.{Connection}
use Rattle.lw_conn.specs.Connections.{Connections, connection, next_number, added as conns_added, closed as conns_closed}
use Rattle.lw_conn.specs.Descriptors.{Descriptors, descriptor, lowest_free, opened, all_free, set as fd_set, closed as fd_closed}
use Rattle.lw_conn.specs.Variables.{Variables, all_unset, put}
use Rattle.lw_conn.specs.Signals.{count, no_signals, raised}
use Rattle.lw_udp.specs.Ends.{Socket, Table as UdpTable, empty, end_of, local_of, remote_of, added as udp_added, removed as udp_removed}
use Rattle.lw_udp.specs.Ports.{bind as udp_bind, bound, with_peer}

-- the UDP ends, the connections, the descriptors, the variables and the signals
pub record Table : Type 0 where
  pub udp : UdpTable
  pub conns : Connections
  pub fds : Descriptors
  pub vars : Variables
  pub signals : List ℕ

-- just the live connections have an end
abbrev pub HaveEnds : Table → Type 0
HaveEnds e = (conn : ℕ) → is_some (end_of e.udp.ends conn) ≡ is_some (connection e.conns conn)

-- nothing was made
abbrev pub opening : Limits → Table
opening limits = record { udp = empty; conns = []; fds = all_free limits.descriptors; vars = all_unset limits.variables; signals = no_signals }

-- an answer, and the table after it; a refusal leaves it as it was
abbrev pub Answer : Type 0
Answer = Reply × Table

-- a refusal with its cause
abbrev pub refused : Table → Code → Answer
refused e code = (Fail code, e)

-- the answer for a live connection; for any other it is CONN
abbrev pub on_live : Table → ℕ → (Connection → Answer) → Answer
on_live e conn f = option_map_or f (connection e.conns conn) (refused e NoConn)

-- New of a connection of UDP: the next number, or MEM
abbrev pub made : Table → Option ℕ → Answer
made e None = refused e Mem
made e (Some conn) = (Conn conn, record e { udp = udp_added e.udp conn; conns = conns_added e.conns Udp })

-- New: MEM where as many are live as the limits allow, or no number is left
abbrev pub new_udp : Limits → Table → Answer
new_udp limits e = made e (next_number limits.live e.conns)

-- an answer of the table of UDP ends
abbrev pub by_udp : Table → Result UdpTable Code → Answer
by_udp e (Ok t) = (Done, record e { udp = t })
by_udp e (Err code) = refused e code

-- the reply that such an answer is
abbrev pub reply_of : Result (Unit {0}) Code → Reply
reply_of (Ok done) = Done
reply_of (Err code) = Fail code

-- Bind: CONN, then as the table of UDP ends answers
abbrev pub bind : Ip → Table → ℕ → Ip → Port → Answer
bind own e conn ip port = on_live e conn (λ c. by_udp e (udp_bind e.udp conn own ip port))

-- a peer can be there: at a port that isn't 0 of one host that isn't 0.0.0.0
abbrev pub is_peer : Net → Ip → Port → Bool
is_peer net ip port = not (ip.0 == 0) && is_host net ip && not (port.0 == 0)

-- Connect, for a table in which the connection is bound and a route: BUF before RTE
abbrev pub connect_by : Table → ℕ → Socket → Result UdpTable Code → Result Ip Code → Answer
connect_by e conn to (Err code) route = refused e code
connect_by e conn to (Ok t) (Err code) = refused e code
connect_by e conn to (Ok t) (Ok hop) = (Done, record e { udp = with_peer conn to t })

-- Connect: CONN, then VAL where no peer can be there, then BUF and RTE
abbrev pub connect : Net → Table → ℕ → Ip → Port → Answer
connect net e conn ip port =
    on_live e conn (λ c. if is_peer net ip port then connect_by e conn (ip, port) (bound e.udp conn) (route_of net ip) else refused e Val)

-- Close: the end is gone, and the number isn't given again
abbrev pub close : Table → ℕ → Answer
close e conn = on_live e conn (λ c. (Done, record e { udp = udp_removed e.udp conn; conns = conns_closed e.conns conn }))

-- GetError: the fault of a connection, if it has one
abbrev pub fault_reply : Option Code → Reply
fault_reply None = Done
fault_reply (Some fault) = Fail fault

-- GetError: CONN, then the fault or none
abbrev pub geterror : Table → ℕ → Reply
geterror e conn = option_map_or (λ (c : Connection). fault_reply c.fault) (connection e.conns conn) (Fail NoConn)

-- GetAddr: what a connection is bound to, 0.0.0.0 and port 0 where it isn't; and its peer, CONN where it has none
abbrev pub addr_reply : Socket → Reply
addr_reply at = Addr at.0 at.1

-- the address of either side of a live connection
abbrev pub addr_of : Table → ℕ → Which → Reply
addr_of e conn Local = option_map_or addr_reply (local_of e.udp.ends conn) (Addr (record { 0 = 0 }) (record { 0 = 0 }))
addr_of e conn Remote = option_map_or addr_reply (remote_of e.udp.ends conn) (Fail NoConn)

-- GetAddr: CONN, then the address
abbrev pub getaddr : Table → ℕ → Which → Reply
getaddr e conn which = if is_some (connection e.conns conn) then addr_of e conn which else Fail NoConn

-- OpenFd: the lowest free descriptor, MEM where there is none
abbrev pub is_udp : Proto → Bool
is_udp Udp = true
is_udp Tcp = false

-- a descriptor for a connection, where one is free
abbrev pub opened_at : Table → ℕ → Connection → Option ℕ → Answer
opened_at e conn c None = refused e Mem
opened_at e conn c (Some fd) = (Fd fd, record e { fds = opened e.fds fd conn (is_udp c.proto) })

-- OpenFd: CONN, then MEM where no descriptor is free
abbrev pub openfd : Table → ℕ → Answer
openfd e conn = on_live e conn (λ c. opened_at e conn c (lowest_free e.fds))

-- SetFd and CloseFd: CONN where the descriptor is free
abbrev pub setfd : Table → ℕ → FdOption → Answer
setfd e fd option = option_map_or (λ d. (Done, record e { fds = fd_set e.fds fd option })) (descriptor e.fds fd) (refused e NoConn)

-- CloseFd: the connection that the descriptor was of
abbrev pub closefd : Table → ℕ → Answer
closefd e fd = option_map_or (λ d. (Conn d.conn, record e { fds = fd_closed e.fds fd })) (descriptor e.fds fd) (refused e NoConn)

-- SetVar: a variable names a live connection, or a descriptor
abbrev pub setvar : Table → ℕ → Handle → Answer
setvar e var (OfConn conn) = on_live e conn (λ c. (Done, record e { vars = put e.vars var (record { handle = OfConn conn; udp = is_udp c.proto }) }))
setvar e var (OfFd fd) = (Done, record e { vars = put e.vars var (record { handle = OfFd fd; udp = false }) })

-- Signal: how often it came
abbrev pub signalled : Table → ℕ → Answer
signalled e signal = let after = raised e.signals signal in (Count (count after signal), record e { signals = after })

-- an event for streams alone: what it answers for a connection of UDP
abbrev pub of_streams : Table → ℕ → Code → Reply
of_streams e conn code = if is_some (connection e.conns conn) then Fail code else Fail NoConn

-- Recved: a connection of UDP has no window
abbrev pub recved : Table → ℕ → Reply
recved e conn = if is_some (connection e.conns conn) then Done else Fail NoConn
