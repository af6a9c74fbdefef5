-- What the fragments of a packet are together, and each of them (RFC 791, 2.3 and 3.2).
use Rattle.std.specs.Prelude.{◌≡◌, ◌+◌, ◌%◌, ◌<◌, ◌≤◌, ◌∷◌, [], ℕ, List}
use Rattle.lw_base.specs.declared.heads.IpHead.{IpHead}
use Rattle.lw_frag.specs.Pieces.{Piece}

-- the fragments begin at a place, each where the one before it ends, and the last ends at an end
abbrev pub Join : ℕ → ℕ → List Piece → Type 0
Join from end [] = from ≡ end
Join from end (p ∷ ps) = (p.1 ≡ from) × Join (p.1 + p.2) end ps

-- what each fragment of a packet is: the packet's header but for the total, the offset and MF, and a range of the data at a multiple of 8 that
-- fits the MTU behind the header, and is empty only where there is no data
pub record IsPieceOf (h : IpHead) (len mtu : ℕ) (p : Piece) : Type 0 where
  pub head : p.0 ≡ record h { total = 20 + p.2; offset = p.1; mf = p.0.mf }
  pub fits : 20 + p.2 ≤ mtu
  pub place : p.1 % 8 ≡ 0
  pub within : p.1 + p.2 ≤ len
  pub some : 0 < len → 0 < p.2
