-- The fragments of a packet (RFC 791, 2.3 and 3.2). A header has 20 octets, and of the data of the packet
-- each fragment carries the octets of a range.
use Rattle.std.specs.Prelude.{◌≡◌, ◌+◌, ◌-◌, ◌*◌, ◌/◌, ◌<◌, ◌++◌, ◌∷◌, [], Bool, true, false, ℕ, List, drop, map, take}
use Rattle.std.specs.Int.{div_ceil}
use Rattle.std.specs.List.{range_with_len}
use Rattle.lw_base.specs.declared.heads.IpHead.{IpHead}

-- a fragment: its header, the place of its first octet in the packet's data, and the number of its octets
abbrev pub Piece : Type 0
Piece = IpHead × ℕ × ℕ

-- the most octets of data that a fragment carries where others follow: a multiple of 8 behind the header
abbrev pub full_len : ℕ → ℕ
full_len mtu = (mtu - 20) / 8 * 8

-- so many full fragments come before the last: as few as leave no more than fits in one packet
abbrev pub full_count : ℕ → ℕ → ℕ
full_count len mtu = div_ceil (len - (mtu - 20)) (full_len mtu)

-- the fragment with so many octets from a place; `more` says that others follow. All other fields are the packet's
abbrev pub piece : IpHead → ℕ → ℕ → Bool → Piece
piece h from len more = (record h { total = 20 + len; offset = from; mf = more }, from, len)

-- the full fragments, one behind the other
abbrev pub full_pieces : IpHead → ℕ → ℕ → List Piece
full_pieces h count len = map (λ i. piece h (i * len) len true) (range_with_len 0 count)

-- the octets that they carry
abbrev pub full_octets : ℕ → ℕ → ℕ
full_octets len mtu = full_count len mtu * full_len mtu

-- all fragments of a packet with so many octets of data: the full ones, and the last with what is left
abbrev pub pieces_of : IpHead → ℕ → ℕ → List Piece
pieces_of h len mtu =
    full_pieces h (full_count len mtu) (full_len mtu) ++ piece h (full_octets len mtu) (len - full_octets len mtu) false ∷ []

-- the octets of the packet's data that a fragment carries
abbrev pub octets_of : List ℕ → Piece → List ℕ
octets_of body p = take p.2 (drop p.1 body)

-- the header of a packet that was not split, without options
pub record IsWhole (h : IpHead) : Type 0 where
  pub head_len : h.head_len ≡ 20
  pub offset : h.offset ≡ 0
  pub mf : h.mf ≡ false

-- the packet may not be split, and exceeds the MTU
pub record MayNotPass (h : IpHead) (len mtu : ℕ) : Type 0 where
  pub df : h.df ≡ true
  pub exceeds : mtu < 20 + len
