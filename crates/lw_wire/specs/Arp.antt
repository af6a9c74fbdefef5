use Rattle.std.specs.Prelude.{◌≡◌, ◌^◌, ◌<◌, ◌++◌, ◌==◌, ◌&&◌, ◌||◌, ◌⊎◌, Bool, ℕ, List, Result, Ok, Err, length, drop, nat_lt, if◌then◌else◌}
use Rattle.byteorder.specs.Endian.{big_bytes}
use Rattle.lw_base.specs.declared.heads.ArpPacket.{ArpPacket}
use Rattle.lw_wire.specs.declared.fault.WireFault.{WireFault}
use Rattle.lw_wire.specs.declared.fault.WireFault.TheVariants.{Short, BadField}
use Rattle.lw_wire.specs.Fields.{ip_at, mac_at, u8_at, u16_at}

-- the octets of an ARP packet (RFC 826): hardware type 1 (Ethernet), protocol type 0x0800 (IPv4),
-- the lengths of their addresses, the operation, and the addresses of the sender and the target
abbrev pub arp_spelling : ArpPacket → List ℕ
arp_spelling p =
    big_bytes 2 1 ++ big_bytes 2 0x0800 ++ big_bytes 1 6 ++ big_bytes 1 4 ++ big_bytes 2 p.op
    ++ p.smac.0 ++ big_bytes 4 p.sip.0 ++ p.tmac.0 ++ big_bytes 4 p.tip.0

-- the operation is 1 (request) or 2 (reply)
abbrev pub IsArpOperation : ℕ → Type 0
IsArpOperation op = (op ≡ 1) ⊎ (op ≡ 2)

-- the operation is allowed, hardware addresses have six octets, and protocol addresses fit four
pub record HasArpSpelling (p : ArpPacket) : Type 0 where
  pub op : IsArpOperation p.op
  pub smac : length p.smac.0 ≡ 6
  pub sip : p.sip.0 < 2 ^ 32
  pub tmac : length p.tmac.0 ≡ 6
  pub tip : p.tip.0 < 2 ^ 32

-- the octets spell the packet, and those behind it are padding
pub record SpellsArp (octets : List ℕ) (p : ArpPacket) : Type 0 where
  pub spelled : octets ≡ arp_spelling p ++ drop 28 octets
  pub fits : HasArpSpelling p

-- the types and lengths are those of Ethernet and IPv4
abbrev pub is_ethernet_ipv4 : List ℕ → Bool
is_ethernet_ipv4 octets = u16_at 0 octets == 1 && u16_at 2 octets == 0x0800 && u8_at 4 octets == 6 && u8_at 5 octets == 4

-- the operation is 1 or 2
abbrev pub is_arp_operation : ℕ → Bool
is_arp_operation op = op == 1 || op == 2

-- the fields of a packet
abbrev pub arp_fields : List ℕ → ArpPacket
arp_fields octets = record {
  op = u16_at 6 octets;
  smac = mac_at 8 octets;
  sip = ip_at 14 octets;
  tmac = mac_at 18 octets;
  tip = ip_at 24 octets;
}

-- the packet that octets begin with, or why there is none
abbrev pub arp_of : List ℕ → Result ArpPacket WireFault
arp_of octets =
    if nat_lt (length octets) 28
    then Err Short
    else (if is_ethernet_ipv4 octets && is_arp_operation (u16_at 6 octets) then Ok (arp_fields octets) else Err BadField)

-- the packet is read from the octets, and these octets stand behind it
abbrev pub ReadsArp : List ℕ → ArpPacket → List ℕ → Type 0
ReadsArp octets p behind = (arp_of octets ≡ Ok p) × (drop 28 octets ≡ behind)
