use Rattle.std.specs.Prelude.{◌≡◌, ◌^◌, ◌<◌, ◌++◌, ℕ, List, Result, Ok, Err, length, drop, nat_lt, if◌then◌else◌}
use Rattle.byteorder.specs.Endian.{big_bytes}
use Rattle.lw_base.specs.declared.heads.EthHead.{EthHead}
use Rattle.lw_wire.specs.declared.fault.WireFault.{WireFault}
use Rattle.lw_wire.specs.declared.fault.WireFault.TheVariants.{Short}
use Rattle.lw_wire.specs.Fields.{mac_at, u16_at}

-- the octets of an Ethernet head: destination, source, type (RFC 894)
abbrev pub eth_spelling : EthHead → List ℕ
eth_spelling h = h.dst.0 ++ h.src.0 ++ big_bytes 2 h.ethertype

-- the addresses have six octets, and the type fits two: so it is with each head in the code
pub record HasEthSpelling (h : EthHead) : Type 0 where
  pub dst : length h.dst.0 ≡ 6
  pub src : length h.src.0 ≡ 6
  pub ethertype : h.ethertype < 2 ^ 16

-- the octets spell the head, and its data begins at the place
pub record SpellsEth (octets : List ℕ) (h : EthHead) (place : ℕ) : Type 0 where
  pub spelled : octets ≡ eth_spelling h ++ drop place octets
  pub behind : place ≡ 14
  pub fits : HasEthSpelling h

-- the fields of a head
abbrev pub eth_fields : List ℕ → EthHead
eth_fields octets = record { dst = mac_at 0 octets; src = mac_at 6 octets; ethertype = u16_at 12 octets }

-- the head that octets begin with and the place of its data, or why there is none
abbrev pub eth_of : List ℕ → Result (EthHead × ℕ) WireFault
eth_of octets =
    if nat_lt (length octets) 14
    then Err Short
    else Ok (eth_fields octets, 14)

-- the head is read from the octets, and this data stands behind it
abbrev pub ReadsEth : List ℕ → EthHead → List ℕ → Type 0
ReadsEth octets h body = (eth_of octets ≡ Ok (h, 14)) × (drop 14 octets ≡ body)
