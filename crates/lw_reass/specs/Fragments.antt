use Rattle.std.specs.Prelude.{◌≡◌, ℕ, ◌+◌, ◌%◌, ◌<◌, ◌≤◌, true, List, [], ◌∷◌, length, take, drop, nat_lt}
use Rattle.std.specs.List.{All, AllPairs, Any}
use Rattle.lw_base.specs.declared.heads.IpHead.{IpHead}
use Rattle.lw_reass.specs.Datagrams.{Datagram, Added, key_of, added}
use Rattle.lw_reass.specs.declared.outcome.Outcome.{Outcome}

-- a fragment as it comes: its header, and the octets behind that
pub record Fragment : Type 0 where
  pub head : IpHead
  pub octets : List ℕ

-- what comes of fragments, one after another: the datagrams that are open after them, and the outcome of each
pub record AllAdded : Type 0 where
  pub datagrams : List Datagram
  pub outcomes : List (Outcome (List ℕ))

abbrev pub before_all : Added → AllAdded → AllAdded
before_all first rest = record { datagrams = rest.datagrams; outcomes = first.outcome ∷ rest.outcomes }

abbrev pub added_all : List Datagram → List Fragment → AllAdded
added_all ds [] = record { datagrams = ds; outcomes = [] }
added_all ds (f ∷ fs) = before_all (added ds f.head f.octets) (added_all (added ds f.head f.octets).datagrams fs)

-- a fragment has the octet at a position
abbrev pub Has : Fragment → ℕ → Type 0
Has f p = (f.head.offset ≤ p) × (p < f.head.offset + length f.octets)

-- two fragments have no position in common
abbrev pub AreApart : Fragment → Fragment → Type 0
AreApart f g = (p : ℕ) → Has f p → Has g p → ⊥

-- a fragment of the datagram with header h and the octets text: it has the datagram's key, and of its octets those from its offset on; it
-- says that more follow just where it ends before the end, and then it has a multiple of 8; the first has h itself
pub record IsFragmentOf (h : IpHead) (text : List ℕ) (f : Fragment) : Type 0 where
  pub key : key_of f.head ≡ key_of h
  pub some : 0 < length f.octets
  pub octets : f.octets ≡ take (length f.octets) (drop f.head.offset text)
  pub within : f.head.offset + length f.octets ≤ length text
  pub more : f.head.mf ≡ nat_lt (f.head.offset + length f.octets) (length text)
  pub eights : f.head.mf ≡ true → length f.octets % 8 ≡ 0
  pub first : f.head.offset ≡ 0 → f.head ≡ h

-- the fragments of a datagram in any order: no two have a position in common, and each octet is in one of them
pub record CutsUp (h : IpHead) (text : List ℕ) (fs : List Fragment) : Type 0 where
  pub some : 0 < length text
  pub short : length text ≤ 65535
  pub each : All (IsFragmentOf h text) fs
  pub apart : AllPairs AreApart fs
  pub cover : (p : ℕ) → p < length text → Any (λ f. Has f p) fs
