-- What comes of an arrival: what is learnt and kept, what goes out, and what goes to a connection.
use Rattle.std.specs.Prelude.{ℕ, ◌==◌, true, List, [], Option, Some, None, Result, Ok, Err, slice_range, if◌then◌else◌}
use Rattle.lw_base.specs.declared.addresses.Ip.{Ip}
use Rattle.lw_base.specs.declared.addresses.Net.{Net}
use Rattle.lw_base.specs.declared.heads.IpHead.{IpHead}
use Rattle.lw_base.specs.declared.heads.UdpHead.{UdpHead}
use Rattle.lw_icmp.specs.Messages.{echo_reply, unreachable}
use Rattle.lw_wire.specs.declared.fault.WireFault.{WireFault}
use Rattle.lw_wire.specs.Ip.{ip_spelling}
use Rattle.lw_wire.specs.Udp.{udp_of}
use Rattle.lw_udp.specs.declared.ends.UdpEnd.{UdpEnd}
use Rattle.lw_udp.specs.Delivery.{best}
use Rattle.lw_udp.specs.Ends.{Socket}
use Rattle.lw_link.specs.Way.{Way, arp_input, emit, sent_head}
use Rattle.lw_reass.specs.Datagrams.{Added, Datagram as OpenDatagram, added, whole_in}
use Rattle.lw_input.specs.declared.arrival.Arrival.{Arrival}
use Rattle.lw_input.specs.declared.arrival.Arrival.TheVariants.{Arp, Datagram, Nothing}
use Rattle.lw_input.specs.Arrivals.{data_in, header_in}
use Rattle.lw_input.specs.Datagrams.{is_fragment}
use Rattle.lw_input.specs.State.{State}

-- a datagram of UDP for a connection: which one, who sent it, and its data
pub record Delivery : Type 0 where
  pub conn : ℕ
  pub from : Socket
  pub octets : List ℕ

-- what a whole datagram brings: the message of ICMP that answers it, and its delivery to a connection
pub record Brought : Type 0 where
  pub message : Option (List ℕ)
  pub delivery : Option Delivery

-- UDP

-- port unreachable (code 3) answers a datagram to the own address for whose port there is no end (RFC 1122, 4.1.3.1)
abbrev pub port_answer : Net → IpHead → List ℕ → List ℕ → Option (List ℕ)
port_answer net h header body = if h.dst.0 == net.ip.0 then Some (unreachable 3 header body) else None

-- a datagram of UDP with this head, whose data begins at this place, goes to a connection: the data up to the length in the head
-- (RFC 768)
abbrev pub delivery_to : IpHead → List ℕ → UdpHead × ℕ → ℕ → Delivery
delivery_to h body r conn = record { conn = conn; from = (h.src, r.0.sport); octets = slice_range body r.1 r.0.total }

-- a datagram of UDP goes to the end that matches best, or to none
abbrev pub by_end : Net → IpHead → List ℕ → List ℕ → UdpHead × ℕ → Option ℕ → Brought
by_end net h header body r (Some conn) = record { message = None; delivery = Some (delivery_to h body r conn) }
by_end net h header body r None = record { message = port_answer net h header body; delivery = None }

-- the data of a datagram comes in that UDP reads, or doesn't read
abbrev pub by_udp : Net → List UdpEnd → IpHead → List ℕ → List ℕ → Result (UdpHead × ℕ) WireFault → Brought
by_udp net ends h header body (Ok r) = by_end net h header body r (best (h.src, r.0.sport) (h.dst, r.0.dport) ends)
by_udp net ends h header body (Err fault) = record { message = None; delivery = None }

abbrev pub udp_input : Net → List UdpEnd → IpHead → List ℕ → List ℕ → Brought
udp_input net ends h header body = by_udp net ends h header body (udp_of body h.src h.dst)

-- Whole datagrams

-- the message of ICMP that answers a datagram to the own address with this header, whose octets are given too, and this data:
-- the answer to an echo request (protocol 1); nothing to TCP (6); protocol unreachable (code 2) to any other but UDP (RFC 792;
-- RFC 1122, 3.2.2.1)
abbrev pub answering : IpHead → List ℕ → List ℕ → Option (List ℕ)
answering h header body =
    if h.proto == 1 then echo_reply body
    else (if h.proto == 6 then None else Some (unreachable 2 header body))

-- the message that answers a whole datagram: only one to the own address is answered
abbrev pub reply_to : Net → IpHead → List ℕ → List ℕ → Option (List ℕ)
reply_to net h header body = if h.dst.0 == net.ip.0 then answering h header body else None

-- what a whole datagram brings: UDP's (17) to any address of the stack, the others' to the own address
abbrev pub brought : Net → List UdpEnd → IpHead → List ℕ → List ℕ → Brought
brought net ends h header body =
    if h.proto == 17 then udp_input net ends h header body else record { message = reply_to net h header body; delivery = None }

-- a message of ICMP goes from the own address to a destination, if there is one
abbrev pub icmp_output : Net → Way → Ip → Option (List ℕ) → Way
icmp_output net w dst (Some message) = emit true w (sent_head net 1 dst) message
icmp_output net w dst None = w

-- a whole datagram comes in, with this header, whose octets are given too, and this data: it came in one frame, or its fragments
-- made it whole. What goes out, and what goes to a connection
abbrev pub ip_input : Net → List UdpEnd → Way → IpHead → List ℕ → List ℕ → Way × Option Delivery
ip_input net ends w h header body =
    let b = brought net ends h header body in
    (icmp_output net w h.src b.message, b.delivery)

-- what an arrival changes: what goes out and what the link knows then, the datagrams of which fragments came, and what goes to a
-- connection
pub record Moved : Type 0 where
  pub way : Way
  pub fragments : List OpenDatagram
  pub delivery : Option Delivery

-- what a datagram that came in changes, over these datagrams of which fragments came
abbrev pub moved_by : Way × Option Delivery → List OpenDatagram → Moved
moved_by i fragments = record { way = i.0; fragments = fragments; delivery = i.1 }

-- the header that the whole has, in 20 octets
abbrev pub whole_header : IpHead → List ℕ
whole_header h = ip_spelling (record h { head_len = 20; offset = 0 })

-- a datagram that a fragment made whole comes in, if one did
abbrev pub whole_input : Net → List UdpEnd → Way → Option (IpHead × List ℕ) → Way × Option Delivery
whole_input net ends w (Some d) = ip_input net ends w d.0 (whole_header d.0) d.1
whole_input net ends w None = (w, None)

-- what comes of a fragment, by what reassembly makes of it
abbrev pub by_added : Net → List UdpEnd → Way → Added → Moved
by_added net ends w a = moved_by (whole_input net ends w (whole_in a.outcome)) a.datagrams

-- the way out at the beginning of an event
abbrev pub begun : State → Way
begun s = record { link = s.link; out = [] }

-- what an arrival by a frame changes
abbrev pub moved : State → List ℕ → Arrival → Moved
moved s frame (Arp p) = record { way = arp_input (begun s) p; fragments = s.fragments; delivery = None }
moved s frame (Datagram h) =
    if is_fragment h then by_added s.link.net s.endpoints.udp.ends (begun s) (added s.fragments h (data_in frame h))
    else moved_by (ip_input s.link.net s.endpoints.udp.ends (begun s) h (header_in frame h) (data_in frame h)) s.fragments
moved s frame Nothing = record { way = begun s; fragments = s.fragments; delivery = None }
