-- The head of a UDP datagram (RFC 768). Its length counts the octets of the head and the data.
use Rattle.std.specs.Prelude.{◌≡◌, ◌^◌, ◌<◌, ◌≤◌, ◌++◌, ◌==◌, ◌||◌, ◌⊎◌, not, Bool, ℕ, List, Result, Ok, Err, length, take, nat_lt, if◌then◌else◌}
use Rattle.byteorder.specs.Endian.{big_bytes}
use Rattle.lw_base.specs.declared.addresses.Ip.{Ip}
use Rattle.lw_base.specs.declared.heads.UdpHead.{UdpHead}
use Rattle.lw_wire.specs.declared.fault.WireFault.{WireFault}
use Rattle.lw_wire.specs.declared.fault.WireFault.TheVariants.{Short, BadField, BadSum}
use Rattle.lw_wire.specs.Checksum.{internet_sum}
use Rattle.lw_wire.specs.Fields.{part_at, port_at, u16_at}
use Rattle.lw_wire.specs.Sums.{has_right_sum, HasRightSum, pseudo_head}

-- the protocol number of UDP in an IPv4 header
abbrev pub udp_protocol : ℕ
udp_protocol = 17

-- the octets of a head with a number in the place of its sum: the ports of source and destination, the
-- length, the sum
abbrev pub udp_with_sum : ℕ → UdpHead → List ℕ
udp_with_sum sum h = big_bytes 2 h.sport.0 ++ big_bytes 2 h.dport.0 ++ big_bytes 2 h.total ++ big_bytes 2 sum

-- a sum as it is sent: 0 tells that there is none, so that one is sent as all ones
abbrev pub sent_sum : ℕ → ℕ
sent_sum sum = if sum == 0 then 65535 else sum

-- the sum of a datagram between two addresses: that of the pseudo head and the datagram with 0 in the sum's
-- place
unfoldable pub udp_sum : UdpHead → Ip → Ip → List ℕ → ℕ
udp_sum h src dst body =
    sent_sum (internet_sum (pseudo_head src dst udp_protocol h.total ++ udp_with_sum 0 h ++ body))

-- the octets of a datagram between two addresses
unfoldable pub udp_spelling : UdpHead → Ip → Ip → List ℕ → List ℕ
udp_spelling h src dst body = udp_with_sum (udp_sum h src dst body) h ++ body

-- the numbers fit their octets: so it is with each head in the code
pub record HasUdpSpelling (h : UdpHead) : Type 0 where
  pub sport : h.sport.0 < 2 ^ 16
  pub dport : h.dport.0 < 2 ^ 16
  pub total : h.total < 2 ^ 16

-- the fields of a head
abbrev pub udp_fields : List ℕ → UdpHead
udp_fields octets = record { sport = port_at 0 octets; dport = port_at 2 octets; total = u16_at 4 octets }

-- a datagram has no sum, or its sum is right over the pseudo head and the datagram
abbrev pub HasUdpSum : List ℕ → Ip → Ip → ℕ → Type 0
HasUdpSum datagram src dst total =
    (u16_at 6 datagram ≡ 0) ⊎ HasRightSum (pseudo_head src dst udp_protocol total ++ datagram)

-- the octets begin with a datagram with this head between two addresses, and its data begins at the place:
-- the fields stand at their places, the length counts the head too and ends within the octets, and the
-- datagram has no sum or a right one. What stands behind the length is free
pub record SpellsUdp (octets : List ℕ) (src dst : Ip) (h : UdpHead) (place : ℕ) : Type 0 where
  pub fields : h ≡ udp_fields octets
  pub behind : place ≡ 8
  pub head : 8 ≤ h.total
  pub total : h.total ≤ length octets
  pub sum : HasUdpSum (take h.total octets) src dst h.total

-- the test of the sum
abbrev pub has_udp_sum : List ℕ → Ip → Ip → ℕ → Bool
has_udp_sum datagram src dst total =
    u16_at 6 datagram == 0 || has_right_sum (pseudo_head src dst udp_protocol total ++ datagram)

-- the head of the datagram that octets begin with and the place of its data, or why there is none
unfoldable pub udp_of : List ℕ → Ip → Ip → Result (UdpHead × ℕ) WireFault
udp_of octets src dst =
    let h = udp_fields octets in
    if nat_lt (length octets) 8 then Err Short
    else (if nat_lt h.total 8 then Err BadField
    else (if nat_lt (length octets) h.total then Err Short
    else (if not (has_udp_sum (take h.total octets) src dst h.total) then Err BadSum
    else Ok (h, 8))))

-- the head of a datagram between two addresses is read from the octets, and this data stands behind it
abbrev pub ReadsUdp : List ℕ → Ip → Ip → UdpHead → List ℕ → Type 0
ReadsUdp octets src dst h body = (udp_of octets src dst ≡ Ok (h, 8)) × (part_at 8 (length body) octets ≡ body)
