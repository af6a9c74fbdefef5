-- The answer to an echo request with 3,000 octets of data, 3,008 with the ICMP head, at an MTU of 1,500.
use Rattle.std.proofs.Common.{◌≡◌, ◌+◌, ◌/◌, ◌∷◌, [], false, ℕ, map, if◌then◌else◌, refl}
use Rattle.lw_base.specs.declared.heads.IpHead.{IpHead}
use Rattle.lw_frag.specs.Pieces.{Piece, pieces_of}

-- the two octets of the flags and the offset (RFC 791, 3.1)
abbrev pub flags_and_offset : IpHead → ℕ
flags_and_offset h = (if h.df then 0x4000 else 0) + (if h.mf then 0x2000 else 0) + h.offset / 8

-- a header of the packet
abbrev pub answer : IpHead
answer = record {
  head_len = 20;
  tos = 0;
  total = 3028;
  id = 0;
  df = false;
  mf = false;
  offset = 0;
  ttl = 255;
  proto = 1;
  src = record { 0 = 0x0a000001 };
  dst = record { 0 = 0x0a000002 };
}

pub totals : map (λ (p : Piece). p.0.total) (pieces_of answer 3008 1500) ≡ 1500 ∷ 1500 ∷ 68 ∷ []
totals = refl

pub flags : map (λ (p : Piece). flags_and_offset p.0) (pieces_of answer 3008 1500) ≡ 0x2000 ∷ 0x20b9 ∷ 0x0172 ∷ []
flags = refl

pub places : map (λ (p : Piece). p.1) (pieces_of answer 3008 1500) ≡ 0 ∷ 1480 ∷ 2960 ∷ []
places = refl

pub lengths : map (λ (p : Piece). p.2) (pieces_of answer 3008 1500) ≡ 1480 ∷ 1480 ∷ 48 ∷ []
lengths = refl
