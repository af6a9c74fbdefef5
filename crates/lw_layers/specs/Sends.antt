-- What the event of a call does that sends a datagram (RFC 768).
use Rattle.std.specs.Prelude.{◌≡◌, ℕ, ◌+◌, ◌≤◌, ◌<◌, ◌++◌, Bool, true, false, List, [], ◌∷◌, length, Result, Ok, Err}
use Rattle.lw_base.specs.declared.addresses.Ip.{Ip}
use Rattle.lw_base.specs.declared.addresses.Mac.{Mac}
use Rattle.lw_base.specs.declared.addresses.Net.{Net}
use Rattle.lw_base.specs.declared.addresses.Port.{Port}
use Rattle.lw_base.specs.declared.errors.Err.{Err as Code}
use Rattle.lw_base.specs.declared.errors.Err.TheVariants.{Mem}
use Rattle.lw_base.specs.declared.heads.UdpHead.{UdpHead}
use Rattle.lw_payload.specs.declared.kinds.Kind.{Kind}
use Rattle.lw_payload.specs.declared.kinds.Kind.TheVariants.{Rom, Ref}
use Rattle.lw_events.specs.declared.event.Reply.TheVariants.{Done, Fail}
use Rattle.lw_events.specs.declared.event.SendData.{SendData}
use Rattle.lw_events.specs.declared.event.SendData.TheVariants.{Literal, Fill}
use Rattle.lw_wire.specs.Ip.{ip_spelling}
use Rattle.lw_wire.specs.Udp.{udp_protocol, udp_spelling}
use Rattle.lw_netif.specs.Frames.{frames_left}
use Rattle.lw_netif.specs.Route.{route_of}
use Rattle.lw_arp.specs.declared.entries.EntryState.TheVariants.{Stable}
use Rattle.lw_arp.specs.Neighbours.{state_of}
use Rattle.lw_link.specs.Way.{Way, emit, packet_frame, sent_head}
use Rattle.lw_api_msg.specs.declared.sends.SendPlan.{SendPlan}
use Rattle.lw_api_msg.specs.Sends.{port_of, send_plan, sent_by}
use Rattle.lw_input.specs.Input.{begun}
use Rattle.lw_layers.specs.Outcomes.{Outcome, going}
use Rattle.lw_input.specs.State.{State}

-- the octets that a call gives
abbrev pub data_of : SendData → List ℕ
data_of (Literal octets) = octets
data_of (Fill octets) = octets

-- the kind of the pbuf that describes them while they are sent
abbrev pub kind_of : SendData → Kind
kind_of (Literal octets) = Rom
kind_of (Fill octets) = Ref

-- the head of a datagram with n octets of data
abbrev pub udp_head : SendPlan → ℕ → UdpHead
udp_head p n = record { sport = port_of p.source; dport = p.to.1; total = 8 + n }

-- a datagram goes out from the own address, by its plan; its last packet may wait for the next hop
abbrev pub datagram_out : Net → Way → SendPlan → List ℕ → Way
datagram_out net w p octets = emit true w (sent_head net udp_protocol p.to.0) (udp_spelling (udp_head p (length octets)) net.ip p.to.0 octets)

-- the step of a datagram that goes out by its plan: its connection is bound then
abbrev pub sent_step : State → SendPlan → List ℕ → Outcome
sent_step s p octets =
    let way = datagram_out s.link.net (begun s) p octets in
    let frames = going s way.out in
    record {
      state = record s { link = way.link; sent = s.sent ++ frames; endpoints = sent_by p s.endpoints };
      reply = Done;
      short = false;
      posts = [];
      frames = frames;
    }

-- the step of one that doesn't go: nothing changes. A pool was short for it, or not
abbrev pub not_sent : State → Code → Bool → Outcome
not_sent s fault short = record { state = s; reply = Fail fault; short = short; posts = []; frames = [] }

-- the step of a datagram by its plan, where there is one: MEM where a pool was short
abbrev pub planned_step : State → List ℕ → Bool → Result SendPlan Code → Outcome
planned_step s octets short (Err fault) = not_sent s fault false
planned_step s octets true (Ok p) = not_sent s Mem true
planned_step s octets false (Ok p) = sent_step s p octets

-- the step of SendTo, where a pool was short, or not
abbrev pub send_step : State → ℕ → Ip → Port → SendData → Bool → Outcome
send_step s conn ip port given short =
    planned_step s (data_of given) short (send_plan s.link.net s.endpoints conn ip port (length (data_of given)))

-- a datagram with so few octets that one frame takes it, to a peer whose next hop is known, goes out in exactly one frame: in it
-- stand the IPv4 header, the head of UDP and the octets that the call gives
abbrev pub SendLaw : Type 0
SendLaw = (s : State) (conn : ℕ) (ip : Ip) (port : Port) (given : SendData) (p : SendPlan) (hop : Ip) (mac : Mac)
    → send_plan s.link.net s.endpoints conn ip port (length (data_of given)) ≡ Ok p → length (data_of given) ≤ 1472
    → route_of s.link.net p.to.0 ≡ Ok hop → state_of s.link.neighbours hop ≡ Stable mac → 0 < frames_left s.sent
    → (send_step s conn ip port given false).frames
    ≡ packet_frame s.link.net mac
    (ip_spelling (record (sent_head s.link.net 17 p.to.0) { total = 28 + length (data_of given); id = s.link.next_id })
    ++ udp_spelling (udp_head p (length (data_of given))) s.link.net.ip p.to.0 (data_of given))
    ∷ []
