-- The fields of a head. Numbers stand with their highest octet first (RFC 791, appendix B).
use Rattle.std.specs.Prelude.{◌<◌, ℕ, List, take, drop, slice_index}
use Rattle.byteorder.specs.Endian.{big_number}
use Rattle.lw_base.specs.declared.addresses.Mac.{Mac}
use Rattle.lw_base.specs.declared.addresses.Ip.{Ip}
use Rattle.lw_base.specs.declared.addresses.Port.{Port}

-- each item of the list is an octet: so it is with each slice of octets in the code
abbrev pub AreOctets : List ℕ → Type 0
AreOctets octets = (i : ℕ) → slice_index octets i < 256

-- the n octets from a place
abbrev pub part_at : ℕ → ℕ → List ℕ → List ℕ
part_at place n octets = take n (drop place octets)

-- the number in the n octets from a place
abbrev pub number_at : ℕ → ℕ → List ℕ → ℕ
number_at place n octets = big_number n (drop place octets)

-- the octet at a place
abbrev pub u8_at : ℕ → List ℕ → ℕ
u8_at place octets = number_at place 1 octets

-- the number in two octets
abbrev pub u16_at : ℕ → List ℕ → ℕ
u16_at place octets = number_at place 2 octets

-- the number in four octets
abbrev pub u32_at : ℕ → List ℕ → ℕ
u32_at place octets = number_at place 4 octets

-- the hardware address in six octets
abbrev pub mac_at : ℕ → List ℕ → Mac
mac_at place octets = record { 0 = part_at place 6 octets }

-- the protocol address in four octets
abbrev pub ip_at : ℕ → List ℕ → Ip
ip_at place octets = record { 0 = u32_at place octets }

-- the port in two octets
abbrev pub port_at : ℕ → List ℕ → Port
port_at place octets = record { 0 = u16_at place octets }
