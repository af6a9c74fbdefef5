-- What the core decides of a datagram that a call sends (RFC 768).
use Rattle.std.specs.Prelude.{ℕ, ◌==◌, ◌&&◌, Bool, true, false, if◌then◌else◌, nat_lt, Option, Some, None, is_some, Result, Ok, Err}
use Rattle.std.specs.Option.{option_map_or}
use Rattle.lw_base.specs.declared.addresses.Ip.{Ip}
use Rattle.lw_base.specs.declared.addresses.Net.{Net}
use Rattle.lw_base.specs.declared.addresses.Port.{Port}
use Rattle.lw_base.specs.declared.errors.Err.{Err as Code}
use Rattle.lw_base.specs.declared.errors.Err.TheVariants.{Buf, Conn as NoConn, Val}
use Rattle.lw_netif.specs.Route.{route_of}
use Rattle.lw_conn.specs.Connections.{connection}
use Rattle.lw_udp.specs.Ends.{Socket, Table as UdpTable, local_of, remote_of}
use Rattle.lw_udp.specs.Ports.{free_port, with_ephemeral}
use Rattle.lw_api_msg.specs.declared.sends.Source.{Source}
use Rattle.lw_api_msg.specs.declared.sends.Source.TheVariants.{Bound, Fresh}
use Rattle.lw_api_msg.specs.declared.sends.SendPlan.{SendPlan}
use Rattle.lw_api_msg.specs.Endpoints.{Table, is_peer}

-- how many octets a datagram has at most: 65,535 without the heads of IPv4 and UDP
abbrev pub longest : ℕ
longest = 65507

-- where a datagram to an address and a port goes: there, or VAL where no peer can be there
abbrev pub named_peer : Net → Ip → Port → Result Socket Code
named_peer net ip port = if is_peer net ip port then Ok (ip, port) else Err Val

-- where a datagram of a connection goes that names no peer: to the connected one, or CONN
abbrev pub connected_peer : Option Socket → Result Socket Code
connected_peer (Some to) = Ok to
connected_peer None = Err NoConn

-- where a datagram goes: 0.0.0.0 and port 0 name no peer
abbrev pub peer_of : Net → Table → ℕ → Ip → Port → Result Socket Code
peer_of net e conn ip port =
    if (ip.0 == 0) && (port.0 == 0) then connected_peer (remote_of e.udp.ends conn) else named_peer net ip port

-- the port that a datagram goes from: that to which its connection is bound, or else the ephemeral one that comes next, or BUF
abbrev pub source_by : Option Socket → Option Port → Result Source Code
source_by (Some local) port = Ok (Bound local.1)
source_by None (Some port) = Ok (Fresh port)
source_by None None = Err Buf

-- the plan of a datagram from a source, where there is one, to a socket by a route, where there is one: BUF before RTE
abbrev pub plan_by : ℕ → Socket → Result Source Code → Result Ip Code → Result SendPlan Code
plan_by conn to (Err fault) route = Err fault
plan_by conn to (Ok source) (Err fault) = Err fault
plan_by conn to (Ok source) (Ok hop) = Ok (record { conn = conn; source = source; to = to })

-- the plan of a datagram of n octets to a socket, where there is one: VAL where it is too long
abbrev pub plan_to : Net → Table → ℕ → ℕ → Result Socket Code → Result SendPlan Code
plan_to net e conn n (Err fault) = Err fault
plan_to net e conn n (Ok to) =
    if nat_lt longest n then Err Val else plan_by conn to (source_by (local_of e.udp.ends conn) (free_port e.udp)) (route_of net to.0)

-- SendTo of n octets: CONN where the connection isn't live; VAL where no peer can be there, or CONN where none is connected;
-- VAL where they are too many; BUF where no port is free; RTE where there is no route; or the plan of the datagram
abbrev pub send_plan : Net → Table → ℕ → Ip → Port → ℕ → Result SendPlan Code
send_plan net e conn ip port n =
    if is_some (connection e.conns conn) then plan_to net e conn n (peer_of net e conn ip port) else Err NoConn

-- the port of a source
abbrev pub port_of : Source → Port
port_of (Bound port) = port
port_of (Fresh port) = port

-- the ends after a datagram from a source: a connection that wasn't bound is bound to its port
abbrev pub with_source : UdpTable → ℕ → Source → UdpTable
with_source t conn (Bound port) = t
with_source t conn (Fresh port) = with_ephemeral t conn port

-- the table after a datagram was sent by a plan
abbrev pub sent_by : SendPlan → Table → Table
sent_by p e = record e { udp = with_source e.udp p.conn p.source }
