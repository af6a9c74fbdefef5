use Rattle.std.specs.Prelude.{ℕ, ◌+◌, ◌%◌, ◌==◌, ◌&&◌, ◌||◌, not, Bool, true, false, List, [], ◌∷◌, ◌++◌, map, length, take, filter, remove, replicate, slice_get, slice_set, Option, Some, None, is_some, unwrap_or, nat_lt, nat_le, if◌then◌else◌}
use Rattle.std.specs.List.{list_all, position_or_len}
use Rattle.lw_base.specs.declared.heads.IpHead.{IpHead}
use Rattle.lw_runs.specs.Positions.{with_octets, overlaps, octets_in}
use Rattle.lw_reass.specs.declared.datagram.Key.{Key}
use Rattle.lw_reass.specs.declared.outcome.Why.{Why}
use Rattle.lw_reass.specs.declared.outcome.Why.TheVariants.{BadLength, Table, Overlap}
use Rattle.lw_reass.specs.declared.outcome.FragmentPlan.{FragmentPlan}
use Rattle.lw_reass.specs.declared.outcome.FragmentPlan.TheVariants.{Refuse, Keep, Complete}
use Rattle.lw_reass.specs.declared.outcome.Outcome.{Outcome}
use Rattle.lw_reass.specs.declared.outcome.Outcome.TheVariants.{Whole, Kept, Dropped}

-- a datagram of which fragments came (RFC 791, section 3.2): what its fragments have in common; for how many ticks it has been open; at
-- each position up to the last octet that is there, the octet or None; its end, where the last fragment came; and the header of the
-- fragment at offset 0, where that came
pub record Datagram : Type 0 where
  pub key : Key
  pub age : ℕ
  pub octets : List (Option ℕ)
  pub end : Option ℕ
  pub head : Option IpHead

-- source, destination, identification and protocol
abbrev pub key_of : IpHead → Key
key_of h = record { src = h.src; dst = h.dst; id = h.id; proto = h.proto }

-- both keys are the same
abbrev pub same_key : Key → Key → Bool
same_key a b = (a.src.0 == b.src.0) && (a.dst.0 == b.dst.0) && (a.id == b.id) && (a.proto == b.proto)

-- the datagram of a fragment before any came
abbrev pub opened : IpHead → Datagram
opened h = record { key = key_of h; age = 0; octets = []; end = None; head = None }

-- where the datagram of a fragment stands among those that are open, or would stand
abbrev pub place_of : List Datagram → IpHead → ℕ
place_of ds h = position_or_len (λ d. same_key d.key (key_of h)) ds

-- that datagram
abbrev pub datagram_of : List Datagram → IpHead → Datagram
datagram_of ds h = unwrap_or (slice_get ds (place_of ds h)) (opened h)

-- it is open
abbrev pub is_open : List Datagram → IpHead → Bool
is_open ds h = nat_lt (place_of ds h) (length ds)

-- nothing is known to end before a position
abbrev pub ends_behind : Option ℕ → ℕ → Bool
ends_behind None p = true
ends_behind (Some e) p = nat_le p e

-- a fragment of n octets fits its datagram: it ends not behind 65,535; it has octets, a multiple of 8 where more fragments follow; it
-- doesn't end behind the datagram's end; and where it is the last, no octet is there behind it
abbrev pub fits : Datagram → IpHead → ℕ → Bool
fits d h n =
    nat_le (h.offset + n) 65535 && nat_lt 0 n && (not h.mf || (n % 8 == 0)) && ends_behind d.end (h.offset + n)
    && (h.mf || nat_le (length d.octets) (h.offset + n))

-- why a fragment of n octets isn't kept, the first reason that holds: it doesn't fit; five other datagrams are open; it overlaps one that
-- is kept
abbrev pub refusal_of : List Datagram → IpHead → ℕ → Option Why
refusal_of ds h n =
    if not (fits (datagram_of ds h) h n) then Some BadLength
    else if not (is_open ds h) && nat_le 5 (length ds) then Some Table
    else if overlaps (datagram_of ds h).octets h.offset n then Some Overlap
    else None

-- the end of a datagram after a fragment of n octets: the last tells it
abbrev pub end_with : Option ℕ → IpHead → ℕ → Option ℕ
end_with end h n = if h.mf then end else Some (h.offset + n)

-- the header that the whole is to have, after a fragment
abbrev pub head_with : Option IpHead → IpHead → Option IpHead
head_with head h = if h.offset == 0 then Some h else head

-- a datagram with a fragment put in
abbrev pub with_fragment : Datagram → IpHead → List ℕ → Datagram
with_fragment d h xs = record d {
  octets = with_octets d.octets h.offset xs;
  end = end_with d.end h (length xs);
  head = head_with d.head h;
}

-- a datagram is whole: its end is known, and at every position before it the octet is there
abbrev pub is_filled : Option ℕ → List (Option ℕ) → Bool
is_filled None octets = false
is_filled (Some e) octets = nat_le e (length octets) && list_all is_some (take e octets)

abbrev pub is_whole : Datagram → Bool
is_whole d = is_filled d.end d.octets

-- n octets of a fragment make its datagram whole; which octets they are doesn't matter
abbrev pub completes : Datagram → IpHead → ℕ → Bool
completes d h n = is_whole (with_fragment d h (replicate n 0))

-- what is to become of a fragment of n octets: it is refused for the first reason that holds, or goes into its datagram, which it may make
-- whole, with the header of the fragment at offset 0
abbrev pub plan_unless : Option Why → Bool → ℕ → IpHead → FragmentPlan
plan_unless (Some why) whole i w = Refuse why
plan_unless None whole i w = if whole then Complete i w else Keep i

unfoldable pub plan_of : List Datagram → IpHead → ℕ → FragmentPlan
plan_of ds h n =
    plan_unless (refusal_of ds h n) (completes (datagram_of ds h) h n) (place_of ds h) (unwrap_or (head_with (datagram_of ds h).head h) h)

-- the header of the whole that a plan makes
abbrev pub whole_head : FragmentPlan → Option IpHead
whole_head (Refuse why) = None
whole_head (Keep i) = None
whole_head (Complete i w) = Some w

-- the datagrams with that of a fragment among them
abbrev pub with_open : List Datagram → IpHead → List Datagram
with_open ds h = if is_open ds h then ds else ds ++ opened h ∷ []

-- what comes of a fragment: the datagrams that are open after it, and the outcome, where octets stand for the payload
pub record Added : Type 0 where
  pub datagrams : List Datagram
  pub outcome : Outcome (List ℕ)

-- a plan carried out: a fragment that is refused is dropped and changes nothing; any other is put into its datagram, which is given out
-- where it is whole
abbrev pub added_by : FragmentPlan → List Datagram → IpHead → List ℕ → Added
added_by (Refuse why) ds h xs = record { datagrams = ds; outcome = Dropped why xs }
added_by (Keep i) ds h xs = record { datagrams = slice_set (with_open ds h) i (with_fragment (datagram_of ds h) h xs); outcome = Kept }
added_by (Complete i w) ds h xs =
    record { datagrams = remove (with_open ds h) i; outcome = Whole w (octets_in (with_fragment (datagram_of ds h) h xs).octets) }

-- a fragment with header h and the octets xs comes (RFC 791, section 3.2, "An Example Reassembly Procedure")
abbrev pub added : List Datagram → IpHead → List ℕ → Added
added ds h xs = added_by (plan_of ds h (length xs)) ds h xs

-- one tick older
abbrev pub older : Datagram → Datagram
older d = record d { age = d.age + 1 }

-- over a tick a datagram stays open where it is younger than 60 ticks then, or is over
abbrev pub stays : Datagram → Bool
stays d = nat_lt (older d).age 60

abbrev pub is_over : Datagram → Bool
is_over d = not (stays d)

-- a tick: each datagram is one tick older, and those of 60 ticks are given up
abbrev pub aged : List Datagram → List Datagram
aged ds = filter (λ d. nat_lt d.age 60) (map older ds)

-- the header and the octets of a whole datagram
abbrev pub whole_in : Outcome (List ℕ) → Option (IpHead × List ℕ)
whole_in (Whole h xs) = Some (h, xs)
whole_in Kept = None
whole_in (Dropped why xs) = None
