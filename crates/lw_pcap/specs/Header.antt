use Rattle.std.specs.Prelude.{◌≡◌, ◌==◌, ◌≤◌, ℕ, Bool, ◌&&◌, ◌||◌, if◌then◌else◌, nat_lt, List, length, drop, Option, Some, None, Result, Ok, Err}
use Rattle.byteorder.specs.Endian.{big_number, little_number}
use Rattle.lw_pcap.specs.declared.header.Endian.{Endian}
use Rattle.lw_pcap.specs.declared.header.Endian.TheVariants.{Big, Little}
use Rattle.lw_pcap.specs.declared.fault.PcapFault.{PcapFault}
use Rattle.lw_pcap.specs.declared.fault.PcapFault.TheVariants.{BadMagic, BadVersion, BadLink, Truncated}

-- the number in the n octets from a place on, in a byte order
abbrev pub number_at : Endian → ℕ → ℕ → List ℕ → ℕ
number_at Big place n octets = big_number n (drop place octets)
number_at Little place n octets = little_number n (drop place octets)

-- a capture's first number: times in microseconds, or in nanoseconds
abbrev pub is_magic : ℕ → Bool
is_magic number = (number == 0xA1B2C3D4) || (number == 0xA1B23C4D)

-- the byte order in which a file's first number is a magic
abbrev pub endian_of : List ℕ → Option Endian
endian_of octets =
    if is_magic (number_at Big 0 4 octets) then Some Big
    else (if is_magic (number_at Little 0 4 octets) then Some Little else None)

-- the version that the header names is 2.4
abbrev pub has_version : Endian → List ℕ → Bool
has_version endian octets = (number_at endian 4 2 octets == 2) && (number_at endian 6 2 octets == 4)

-- the link type that the header names is 1, Ethernet
abbrev pub has_link : Endian → List ℕ → Bool
has_link endian octets = number_at endian 20 4 octets == 1

-- the octets begin with the header of a capture: magic, version 2.4, three numbers that say nothing
-- here (time zone, accuracy and longest frame), and link type 1
pub record SpellsHeader (endian : Endian) (octets : List ℕ) : Type 0 where
  pub whole : 24 ≤ length octets
  pub magic : endian_of octets ≡ Some endian
  pub major : number_at endian 4 2 octets ≡ 2
  pub minor : number_at endian 6 2 octets ≡ 4
  pub link : number_at endian 20 4 octets ≡ 1

-- the byte order of a header whose magic is known, or its first fault
abbrev pub header_with : Option Endian → List ℕ → Result Endian PcapFault
header_with None octets = Err BadMagic
header_with (Some endian) octets =
    if has_version endian octets then (if has_link endian octets then Ok endian else Err BadLink)
    else Err BadVersion

-- the byte order of a capture, or the first fault of its header
abbrev pub header_of : List ℕ → Result Endian PcapFault
header_of octets =
    if nat_lt (length octets) 24 then Err (Truncated 0) else header_with (endian_of octets) octets
