-- The IPv4 header (RFC 791, 3.1). Lengths and the offset count octets.
use Rattle.std.specs.Prelude.{◌≡◌, ◌+◌, ◌*◌, ◌/◌, ◌%◌, ◌^◌, ◌<◌, ◌≤◌, ◌++◌, ◌∷◌, ◌==◌, ◌&&◌, not, Bool, ℕ, List, Result, Ok, Err, length, take, nat_le, nat_lt, if◌then◌else◌}
use Rattle.std.specs.Int.{bit_at, from_bool}
use Rattle.byteorder.specs.Endian.{big_bytes}
use Rattle.lw_base.specs.declared.heads.IpHead.{IpHead}
use Rattle.lw_wire.specs.declared.fault.WireFault.{WireFault}
use Rattle.lw_wire.specs.declared.fault.WireFault.TheVariants.{Short, BadField, BadSum}
use Rattle.lw_wire.specs.Checksum.{internet_sum}
use Rattle.lw_wire.specs.Fields.{ip_at, part_at, u8_at, u16_at}
use Rattle.lw_wire.specs.Sums.{has_right_sum, HasRightSum}

-- two flags and the offset in sixteen bits: 0, DF (don't fragment), MF (more fragments), and the offset in
-- units of eight octets in the lowest thirteen
abbrev pub flags_and_offset : IpHead → ℕ
flags_and_offset h = from_bool h.df * 2 ^ 14 + from_bool h.mf * 2 ^ 13 + h.offset / 8

-- the octets of a header without options, with a number in the place of its sum: version 4 and five words,
-- type of service, total length, identification, flags and offset, time to live, protocol, sum, source,
-- destination
abbrev pub ip_with_sum : ℕ → IpHead → List ℕ
ip_with_sum sum h =
    (0x45 ∷ h.tos ∷ big_bytes 2 h.total)
    ++ (big_bytes 2 h.id ++ big_bytes 2 (flags_and_offset h))
    ++ (h.ttl ∷ h.proto ∷ big_bytes 2 sum)
    ++ big_bytes 4 h.src.0
    ++ big_bytes 4 h.dst.0

-- the octets of a header without options; its sum is that of the header with 0 in the sum's place
unfoldable pub ip_spelling : IpHead → List ℕ
ip_spelling h = ip_with_sum (internet_sum (ip_with_sum 0 h)) h

-- the header fits a body of n octets: it has no options, its total length counts both, and its offset is a
-- number of units of eight octets that thirteen bits hold
pub record FitsIp (h : IpHead) (n : ℕ) : Type 0 where
  pub head_len : h.head_len ≡ 20
  pub total : h.total ≡ 20 + n
  pub units : h.offset % 8 ≡ 0
  pub offset : h.offset ≤ 65528

-- the numbers fit their octets: so it is with each header in the code
pub record HasIpSpelling (h : IpHead) : Type 0 where
  pub tos : h.tos < 2 ^ 8
  pub total : h.total < 2 ^ 16
  pub id : h.id < 2 ^ 16
  pub ttl : h.ttl < 2 ^ 8
  pub proto : h.proto < 2 ^ 8
  pub src : h.src.0 < 2 ^ 32
  pub dst : h.dst.0 < 2 ^ 32

-- the fields of a header
abbrev pub ip_fields : List ℕ → IpHead
ip_fields octets = record {
  head_len = 4 * (u8_at 0 octets % 2 ^ 4);
  tos = u8_at 1 octets;
  total = u16_at 2 octets;
  id = u16_at 4 octets;
  df = bit_at (u16_at 6 octets) 14 == 1;
  mf = bit_at (u16_at 6 octets) 13 == 1;
  offset = 8 * (u16_at 6 octets % 2 ^ 13);
  ttl = u8_at 8 octets;
  proto = u8_at 9 octets;
  src = ip_at 12 octets;
  dst = ip_at 16 octets;
}

-- the octets begin with the header, and its data begins at the place: the version is 4, the fields stand at
-- their places, the header has at least five words, its total length counts it too and ends within the
-- octets, and its sum is right. The reserved bit, options and what stands behind the total length are free
pub record SpellsIp (octets : List ℕ) (h : IpHead) (place : ℕ) : Type 0 where
  pub version : u8_at 0 octets / 2 ^ 4 ≡ 4
  pub fields : h ≡ ip_fields octets
  pub behind : place ≡ h.head_len
  pub words : 20 ≤ h.head_len
  pub header : h.head_len ≤ h.total
  pub total : h.total ≤ length octets
  pub sum : HasRightSum (take h.head_len octets)

-- the version is 4, the header has at least five words, and its total length counts it too
abbrev pub is_ip : List ℕ → Bool
is_ip octets =
    let h = ip_fields octets in
    u8_at 0 octets / 2 ^ 4 == 4 && nat_le 20 h.head_len && nat_le h.head_len h.total

-- the header that octets begin with and the place of its data, or why there is none
unfoldable pub ip_of : List ℕ → Result (IpHead × ℕ) WireFault
ip_of octets =
    let h = ip_fields octets in
    if nat_lt (length octets) 20 then Err Short
    else (if not (is_ip octets) then Err BadField
    else (if nat_lt (length octets) h.total then Err Short
    else (if not (has_right_sum (take h.head_len octets)) then Err BadSum
    else Ok (h, h.head_len))))

-- the header is read from the octets, and this data stands behind it
abbrev pub ReadsIp : List ℕ → IpHead → List ℕ → Type 0
ReadsIp octets h body = (ip_of octets ≡ Ok (h, 20)) × (part_at 20 (length body) octets ≡ body)
