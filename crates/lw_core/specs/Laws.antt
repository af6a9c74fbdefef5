-- What the serial step does to frames that everybody knows.
use Rattle.std.specs.Prelude.{◌≡◌, ℕ, ◌+◌, ◌^◌, ◌≤◌, ◌<◌, ◌++◌, ◌⊎◌, slice_index, Bool, true, false, List, [], ◌∷◌, length, replicate, Ok, is_some, Contains, IsTrue}
use Rattle.lw_base.specs.declared.addresses.Ip.{Ip}
use Rattle.lw_base.specs.declared.addresses.Mac.{Mac}
use Rattle.lw_base.specs.declared.addresses.Net.{Net}
use Rattle.lw_base.specs.declared.heads.ArpPacket.{ArpPacket}
use Rattle.lw_base.specs.declared.heads.EthHead.{EthHead}
use Rattle.lw_base.specs.declared.heads.IpHead.{IpHead}
use Rattle.lw_base.specs.declared.heads.UdpHead.{UdpHead}
use Rattle.lw_events.specs.declared.entry.ItemText.TheVariants.{Datagram as DatagramText}
use Rattle.lw_events.specs.declared.entry.Post.TheVariants.{Item as Posted}
use Rattle.lw_wire.specs.Eth.{eth_spelling, HasEthSpelling}
use Rattle.lw_wire.specs.Arp.{arp_spelling, HasArpSpelling}
use Rattle.lw_wire.specs.Ip.{ip_spelling, FitsIp, HasIpSpelling}
use Rattle.lw_wire.specs.Udp.{udp_spelling, HasUdpSpelling}
use Rattle.lw_udp.specs.declared.ends.UdpEnd.{UdpEnd}
use Rattle.lw_udp.specs.Delivery.{claim_of, GoesTo}
use Rattle.lw_udp.specs.Ends.{Socket}
use Rattle.lw_icmp.specs.Messages.{echo_answer, echo_request}
use Rattle.lw_netif.specs.Route.{route_of}
use Rattle.lw_netif.specs.Frames.{frames_left}
use Rattle.lw_arp.specs.declared.entries.EntryState.TheVariants.{Stable}
use Rattle.lw_arp.specs.Neighbours.{state_of}
use Rattle.lw_link.specs.Way.{arp_reply, packet_frame, sent_head}
use Rattle.lw_netif.specs.Hosts.{is_host}
use Rattle.lw_input.specs.State.{State}
use Rattle.lw_layers.specs.Posts.{posted_to}
use Rattle.lw_layers.specs.Outcomes.{Outcome}
use Rattle.lw_layers.specs.Step.{frame_step}

-- a frame of this type for the stack, by its hardware address or by broadcast
pub record IsForUs (net : Net) (e : EthHead) (ethertype : ℕ) : Type 0 where
  pub dst : (e.dst ≡ net.mac) ⊎ (e.dst.0 ≡ replicate 6 255)
  pub kind : e.ethertype ≡ ethertype
  pub spelled : HasEthSpelling e

-- an ARP packet that asks another's address for the own one (RFC 826)
pub record AsksForUs (net : Net) (p : ArpPacket) : Type 0 where
  pub op : p.op ≡ 1
  pub target : p.tip ≡ net.ip
  pub other : p.sip.0 ≡ net.ip.0 → ⊥
  pub spelled : HasArpSpelling p

-- an ARP request for the own address is answered to its sender: the first frame sent is the reply
abbrev pub ArpLaw : Type 0
ArpLaw = (s : State) (e : EthHead) (p : ArpPacket) (padding : List ℕ) (places : List Bool)
    → IsForUs s.link.net e 0x0806 → AsksForUs s.link.net p → 0 < frames_left s.sent
    → (others : List (List ℕ)) × ((frame_step s (eth_spelling e ++ (arp_spelling p ++ padding)) places).frames ≡ arp_reply s.link.net p ∷ others)

-- a whole datagram of a protocol to the own address, from a sender that may have one, with n octets
pub record ReachesUs (net : Net) (protocol : ℕ) (h : IpHead) (n : ℕ) : Type 0 where
  pub proto : h.proto ≡ protocol
  pub dst : h.dst ≡ net.ip
  pub src : is_host net h.src ≡ true
  pub whole : h.mf ≡ false
  pub first : h.offset ≡ 0
  pub fits : FitsIp h n
  pub spelled : HasIpSpelling h

-- an echo request to the own address, whose sender's next hop is known, gets exactly one frame, with the answer: its identifier,
-- its sequence number and its data
abbrev pub EchoLaw : Type 0
EchoLaw = (s : State) (e : EthHead) (h : IpHead) (numbers : ℕ) (text padding : List ℕ) (hop : Ip) (mac : Mac) (places : List Bool)
    → IsForUs s.link.net e 0x0800 → ReachesUs s.link.net 1 h (8 + length text) → numbers < 2 ^ 32 → length text ≤ 1472
    → ((i : ℕ) → slice_index text i < 256)
    → route_of s.link.net h.src ≡ Ok hop → state_of s.link.neighbours hop ≡ Stable mac → 0 < frames_left s.sent
    → (frame_step s (eth_spelling e ++ (ip_spelling h ++ echo_request numbers text ++ padding)) places).frames
    ≡ packet_frame s.link.net mac
    (ip_spelling (record (sent_head s.link.net 1 h.src) { total = 28 + length text; id = s.link.next_id }) ++ echo_answer numbers text)
    ∷ []

-- a datagram of UDP with this data was posted to the connection that it goes to, the least of the best class, and nothing else; and
-- nothing is sent
pub record IsDelivered (s : State) (src dst : Socket) (text : List ℕ) (o : Outcome) : Type 0 where
  pub conn : ℕ
  pub best : GoesTo src dst s.endpoints.udp.ends conn
  pub posts : o.posts ≡ Posted conn (posted_to s.endpoints.conns conn) (DatagramText src.0 src.1 text) ∷ []
  pub frames : o.frames ≡ []

-- a datagram of UDP to the own address, in one frame, with its sum, is delivered where an end has a claim on it and its mailbox has
-- a place. What stands behind its length isn't its data
abbrev pub UdpLaw : Type 0
UdpLaw = (s : State) (e : EthHead) (h : IpHead) (u : UdpHead) (text behind padding : List ℕ) (bound : UdpEnd)
    → IsForUs s.link.net e 0x0800 → ReachesUs s.link.net 17 h (8 + length text + length behind)
    → HasUdpSpelling u → u.total ≡ 8 + length text → ((i : ℕ) → slice_index text i < 256)
    → Contains s.endpoints.udp.ends bound → IsTrue (is_some (claim_of (h.src, u.sport) (h.dst, u.dport) bound))
    → IsDelivered s (h.src, u.sport) (h.dst, u.dport) text
    (frame_step s (eth_spelling e ++ (ip_spelling h ++ (udp_spelling u h.src h.dst text ++ behind) ++ padding)) (true ∷ []))
