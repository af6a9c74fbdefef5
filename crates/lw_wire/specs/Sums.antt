-- What the heads' checksums cover, and when they are right (RFC 1071).
use Rattle.std.specs.Prelude.{◌≡◌, ◌++◌, ◌∷◌, ◌==◌, Bool, ℕ, List}
use Rattle.byteorder.specs.Endian.{big_bytes}
use Rattle.lw_base.specs.declared.addresses.Ip.{Ip}
use Rattle.lw_wire.specs.Checksum.{internet_sum, ones_sum}

-- the checksum that stands in the octets is right: their one's complement sum is all ones (RFC 1071, 1)
abbrev pub HasRightSum : List ℕ → Type 0
HasRightSum octets = ones_sum octets ≡ 65535

-- the test of it
abbrev pub has_right_sum : List ℕ → Bool
has_right_sum octets = internet_sum octets == 0

-- what the sums of UDP (RFC 768) and TCP (RFC 9293, 3.1) cover in front of the head: the addresses of the
-- source and the destination, 0, the protocol, and how many octets the head and its data have
abbrev pub pseudo_head : Ip → Ip → ℕ → ℕ → List ℕ
pseudo_head src dst protocol total =
    big_bytes 4 src.0 ++ big_bytes 4 dst.0 ++ (0 ∷ protocol ∷ big_bytes 2 total)
