-- The way out: how datagrams and ARP's packets become frames (RFC 791, RFC 826, RFC 894, RFC 1122 2.3.2.2).
use Rattle.std.specs.Prelude.{ℕ, ◌+◌, ◌-◌, ◌^◌, ◌%◌, ◌<◌, ◌≤◌, ◌++◌, Bool, true, false, List, [], ◌∷◌, Option, Some, None, Result, Ok, Err, length, map, replicate, slice_get, if◌then◌else◌}
use Rattle.std.specs.Option.{option_map}
use Rattle.lw_base.specs.declared.addresses.Ip.{Ip}
use Rattle.lw_base.specs.declared.addresses.Mac.{Mac}
use Rattle.lw_base.specs.declared.addresses.Net.{Net}
use Rattle.lw_base.specs.declared.errors.Err.{Err as Code}
use Rattle.lw_base.specs.declared.heads.ArpPacket.{ArpPacket}
use Rattle.lw_base.specs.declared.heads.IpHead.{IpHead}
use Rattle.lw_netif.specs.Route.{route_of}
use Rattle.lw_arp.specs.declared.entries.ArpEntry.{ArpEntry}
use Rattle.lw_arp.specs.declared.entries.EntryState.{EntryState}
use Rattle.lw_arp.specs.declared.entries.EntryState.TheVariants.{Stable, Pending, Empty}
use Rattle.lw_arp.specs.Neighbours.{held, is_answered, learnt, looked_up, released, state_of}
use Rattle.lw_frag.specs.Pieces.{Piece, octets_of, pieces_of}
use Rattle.lw_wire.specs.Eth.{eth_spelling}
use Rattle.lw_wire.specs.Arp.{arp_spelling}
use Rattle.lw_wire.specs.Ip.{ip_spelling}

-- Packets and frames

-- how many octets a packet has at most that one frame takes (RFC 894)
abbrev pub mtu : ℕ
mtu = 1500

-- a packet that one frame takes
pub record IsPacket (octets : List ℕ) : Type 0 where
  pub some : 0 < length octets
  pub fits : length octets ≤ mtu

-- the header of a datagram that the stack sends: no options, type of service 0, time to live 255, from the own
-- address. Its total length and its identification are given to it on the way out
abbrev pub sent_head : Net → ℕ → Ip → IpHead
sent_head net proto dst = record {
  head_len = 20;
  tos = 0;
  total = 0;
  id = 0;
  df = false;
  mf = false;
  offset = 0;
  ttl = 255;
  proto = proto;
  src = net.ip;
  dst = dst;
}

-- the packet that carries a piece of a datagram's body
abbrev pub packet : List ℕ → Piece → List ℕ
packet body piece = ip_spelling piece.0 ++ octets_of body piece

-- the packets in which a datagram goes: one, or its fragments
abbrev pub packets : IpHead → List ℕ → List (List ℕ)
packets head body = map (packet body) (pieces_of head (length body) mtu)

-- the frame that takes a packet to a neighbour (RFC 894)
abbrev pub packet_frame : Net → Mac → List ℕ → List ℕ
packet_frame net mac octets = eth_spelling (record { dst = mac; src = net.mac; ethertype = 0x0800 }) ++ octets

-- the frame with an ARP packet from the own address (RFC 826): operation 1 asks for an address, 2 answers
abbrev pub arp_frame : Net → ℕ → Mac → Mac → Ip → List ℕ
arp_frame net op dst tmac tip =
    eth_spelling (record { dst = dst; src = net.mac; ethertype = 0x0806 })
    ++ arp_spelling (record { op = op; smac = net.mac; sip = net.ip; tmac = tmac; tip = tip })

-- the frame that answers a request: to its sender
abbrev pub arp_reply : Net → ArpPacket → List ℕ
arp_reply net p = arp_frame net 2 p.smac p.smac p.sip

-- the frame that asks for the hardware address of an address: to all
abbrev pub arp_request : Net → Ip → List ℕ
arp_request net ip = arp_frame net 1 (record { 0 = replicate 6 255 }) (record { 0 = replicate 6 0 }) ip

-- The way out

-- what stays from one event to the next: the own address, what is known of neighbours, with the packets that wait, and
-- the identification of the next datagram
pub record Link : Type 0 where
  pub net : Net
  pub neighbours : List (ArpEntry (List ℕ))
  pub next_id : ℕ

-- the way out in an event: the link, and the frames that were sent in this event so far
pub record Way : Type 0 where
  pub link : Link
  pub out : List (List ℕ)

-- frames go out
abbrev pub sends : Way → List (List ℕ) → Way
sends w frames = record w { out = w.out ++ frames }

-- this is known of neighbours
abbrev pub knows : Way → List (ArpEntry (List ℕ)) → Way
knows w table = record w { link = record w.link { neighbours = table } }

-- a datagram takes an identification, of sixteen bits
abbrev pub takes_id : Way → Way
takes_id w = record w { link = record w.link { next_id = (w.link.next_id + 1) % 2 ^ 16 } }

-- the table in which addresses were looked up, one after another
abbrev pub asked_for : {P : Type 0} → List (ArpEntry P) → List Ip → List (ArpEntry P)
asked_for table [] = table
asked_for table (ip ∷ ips) = asked_for (looked_up table ip) ips

-- the table in which a packet waits for an address, if there is one
abbrev pub waiting_in : {P : Type 0} → List (ArpEntry P) → Option (Ip × P) → List (ArpEntry P)
waiting_in table (Some w) = held table w.0 w.1
waiting_in table None = table

-- the packet of a datagram that waits for the next hop: the last one, where packets may wait (RFC 1122, 2.3.2.2)
abbrev pub last_of : Bool → Ip → List (List ℕ) → Option (Ip × List ℕ)
last_of true hop ps = option_map (λ p. (hop, p)) (slice_get ps (length ps - 1))
last_of false hop ps = None

-- an address is asked for
abbrev pub asks : Way → Ip → Way
asks w ip = sends w (arp_request w.link.net ip ∷ [])

-- packets go to the next hop where its hardware address is known; else it is asked for, unless it was before, and the
-- last packet waits, where it may
abbrev pub to_hop : Bool → Way → Ip → List (List ℕ) → EntryState → Way
to_hop may w hop ps (Stable mac) = sends w (map (packet_frame w.link.net mac) ps)
to_hop may w hop ps Pending = knows w (waiting_in w.link.neighbours (last_of may hop ps))
to_hop may w hop ps Empty = knows (asks w hop) (waiting_in (looked_up w.link.neighbours hop) (last_of may hop ps))

-- a datagram goes by the next hop, if there is one, and takes an identification
abbrev pub by_route : Bool → Way → IpHead → List ℕ → Result Ip Code → Way
by_route may w h body (Ok hop) =
    to_hop may (takes_id w) hop (packets (record h { id = w.link.next_id }) body) (state_of w.link.neighbours hop)
by_route may w h body (Err none) = w

-- a datagram goes out; its packets may wait or not
abbrev pub emit : Bool → Way → IpHead → List ℕ → Way
emit may w h body = by_route may w h body (route_of w.link.net h.dst)

-- a datagram: its header and its body
abbrev pub Datagram : Type 0
Datagram = IpHead × List ℕ

-- datagrams go out, one after another
abbrev pub emits : Bool → Way → List Datagram → Way
emits may w [] = w
emits may w (d ∷ ds) = emits may (emit may w d.0 d.1) ds

-- What an ARP packet brings (RFC 826)

-- a request for the own address is answered
abbrev pub arp_answer : Way → ArpPacket → Way
arp_answer w p = if is_answered w.link.net.ip p then sends w (arp_reply w.link.net p ∷ []) else w

-- the packet that waited for a neighbour goes out, if one did
abbrev pub released_to : Way → Mac → Option (List ℕ) → Way
released_to w mac (Some octets) = sends w (packet_frame w.link.net mac octets ∷ [])
released_to w mac None = w

-- an ARP packet teaches, is answered where it is a request for the own address, and lets out what waited for its sender
abbrev pub arp_input : Way → ArpPacket → Way
arp_input w p =
    released_to (arp_answer (knows w (learnt w.link.net.ip w.link.neighbours p)) p) p.smac (released w.link.net.ip w.link.neighbours p)
