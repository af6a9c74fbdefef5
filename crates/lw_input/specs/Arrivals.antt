-- What a frame brings to a stack: what is read of it, before anything is answered.
use Rattle.std.specs.Prelude.{ℕ, ◌+◌, ◌≤◌, ◌==◌, ◌||◌, nat_eq, Bool, List, Result, Ok, Err, drop, replicate, slice_range, if◌then◌else◌}
use Rattle.std.specs.Cmp.Lexicographic.{pointwise}
use Rattle.lw_base.specs.declared.addresses.Mac.{Mac}
use Rattle.lw_base.specs.declared.addresses.Net.{Net}
use Rattle.lw_base.specs.declared.heads.ArpPacket.{ArpPacket}
use Rattle.lw_base.specs.declared.heads.EthHead.{EthHead}
use Rattle.lw_base.specs.declared.heads.IpHead.{IpHead}
use Rattle.lw_wire.specs.declared.fault.WireFault.{WireFault}
use Rattle.lw_wire.specs.Eth.{eth_of}
use Rattle.lw_wire.specs.Arp.{arp_of}
use Rattle.lw_wire.specs.Ip.{ip_of}
use Rattle.lw_input.specs.declared.arrival.Arrival.{Arrival}
use Rattle.lw_input.specs.declared.arrival.Arrival.TheVariants.{Arp, Datagram, Nothing}
use Rattle.lw_input.specs.Datagrams.{is_accepted}

-- a frame for a destination is taken by a stack with that hardware address, and by all where it is broadcast
abbrev pub is_taken : Net → Mac → Bool
is_taken net dst = pointwise nat_eq dst.0 net.mac.0 || pointwise nat_eq dst.0 (replicate 6 255)

-- what octets bring that were read as an ARP packet (RFC 826)
abbrev pub arp_brings : Result ArpPacket WireFault → Arrival
arp_brings (Ok p) = Arp p
arp_brings (Err fault) = Nothing

-- what octets bring that were read as a datagram (RFC 791)
abbrev pub datagram_brings : Net → Result (IpHead × ℕ) WireFault → Arrival
datagram_brings net (Ok r) = if is_accepted net r.0 then Datagram r.0 else Nothing
datagram_brings net (Err fault) = Nothing

-- what the data of a frame brings, by the frame's type: ARP's (RFC 826) or IPv4's (RFC 894)
abbrev pub data_brings : Net → ℕ → List ℕ → Arrival
data_brings net ethertype octets =
    if ethertype == 0x0806 then arp_brings (arp_of octets)
    else (if ethertype == 0x0800 then datagram_brings net (ip_of octets) else Nothing)

-- what a frame brings that was read as an Ethernet head, if the stack takes it
abbrev pub frame_brings : Net → List ℕ → Result (EthHead × ℕ) WireFault → Arrival
frame_brings net octets (Ok r) =
    if is_taken net r.0.dst then data_brings net r.0.ethertype (drop r.1 octets) else Nothing
frame_brings net octets (Err fault) = Nothing

-- what a frame brings to a stack
abbrev pub arrival_of : Net → List ℕ → Arrival
arrival_of net octets = frame_brings net octets (eth_of octets)

-- the header of a datagram in its frame, behind the Ethernet head of 14 octets
abbrev pub header_in : List ℕ → IpHead → List ℕ
header_in frame h = slice_range frame 14 (14 + h.head_len)

-- the data of a datagram in its frame: behind the header, up to the total length
abbrev pub data_in : List ℕ → IpHead → List ℕ
data_in frame h = slice_range frame (14 + h.head_len) (14 + h.total)

-- n octets hold the datagram with a header of 20 octets or more
pub record HoldsDatagram (n : ℕ) (h : IpHead) : Type 0 where
  pub header : 20 ≤ h.head_len
  pub some : h.head_len ≤ h.total
  pub within : h.total ≤ n

-- a frame of n octets of data holds the datagram that it brings
abbrev pub Holds : ℕ → Arrival → Type 0
Holds n (Arp p) = Unit {0}
Holds n (Datagram h) = HoldsDatagram n h
Holds n Nothing = Unit {0}
