-- The head of an ICMP message (RFC 792), whose sum covers the whole message.
use Rattle.std.specs.Prelude.{◌≡◌, ◌^◌, ◌<◌, ◌≤◌, ◌++◌, ◌∷◌, ℕ, List, not, Result, Ok, Err, length, drop, nat_lt, if◌then◌else◌}
use Rattle.byteorder.specs.Endian.{big_bytes}
use Rattle.lw_base.specs.declared.heads.IcmpHead.{IcmpHead}
use Rattle.lw_wire.specs.declared.fault.WireFault.{WireFault}
use Rattle.lw_wire.specs.declared.fault.WireFault.TheVariants.{Short, BadSum}
use Rattle.lw_wire.specs.Checksum.{internet_sum}
use Rattle.lw_wire.specs.Fields.{u8_at, u32_at}
use Rattle.lw_wire.specs.Sums.{has_right_sum, HasRightSum}

-- the octets of a head with a number in the place of its sum: type, code, sum, and four octets whose meaning
-- the type tells
abbrev pub icmp_with_sum : ℕ → IcmpHead → List ℕ
icmp_with_sum sum h = (h.kind ∷ h.code ∷ big_bytes 2 sum) ++ big_bytes 4 h.rest

-- the octets of a message; its sum is that of the message with 0 in the sum's place
unfoldable pub icmp_spelling : IcmpHead → List ℕ → List ℕ
icmp_spelling h body = icmp_with_sum (internet_sum (icmp_with_sum 0 h ++ body)) h ++ body

-- the numbers fit their octets: so it is with each head in the code
pub record HasIcmpSpelling (h : IcmpHead) : Type 0 where
  pub kind : h.kind < 2 ^ 8
  pub code : h.code < 2 ^ 8
  pub rest : h.rest < 2 ^ 32

-- the fields of a head
abbrev pub icmp_fields : List ℕ → IcmpHead
icmp_fields octets = record { kind = u8_at 0 octets; code = u8_at 1 octets; rest = u32_at 4 octets }

-- the octets are a message with this head, whose data begins at the place: they hold the head, the fields
-- stand at their places, and the sum over all the octets is right
pub record SpellsIcmp (octets : List ℕ) (h : IcmpHead) (place : ℕ) : Type 0 where
  pub head : 8 ≤ length octets
  pub fields : h ≡ icmp_fields octets
  pub behind : place ≡ 8
  pub sum : HasRightSum octets

-- the head of the message that the octets are and the place of its data, or why there is none
unfoldable pub icmp_of : List ℕ → Result (IcmpHead × ℕ) WireFault
icmp_of octets =
    if nat_lt (length octets) 8 then Err Short
    else (if not (has_right_sum octets) then Err BadSum
    else Ok (icmp_fields octets, 8))

-- the head is read from the octets, and this data stands behind it
abbrev pub ReadsIcmp : List ℕ → IcmpHead → List ℕ → Type 0
ReadsIcmp octets h body = (icmp_of octets ≡ Ok (h, 8)) × (drop 8 octets ≡ body)
