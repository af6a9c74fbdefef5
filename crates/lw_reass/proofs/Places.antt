use Rattle.std.proofs.Common.{◌≡◌, ℕ, zero, suc, ◌+◌, ◌≤◌, not, cond, List, [], ◌∷◌, map, length, None, refl, ap, ◌∙◌, arith, slice_get}
use Rattle.std.specs.Option.{unwrap_or}
use Rattle.std.specs.List.{position, position_or_len}
use Rattle.lw_base.specs.declared.heads.IpHead.{IpHead}
use Rattle.lw_runs.proofs.Places.{place_or_end, place-le}
use Rattle.lw_reass.specs.Datagrams.{place_of, same_key, key_of}
use Rattle.lw_reass.specs.Opens.{datagram}
use Rattle.lw_reass.specs.declared.datagram.Open.{Open}

-- the place among the datagrams that contracts see
pub place_seen : {P H : Type 0} (os : List (Open P H)) (h : IpHead) → position_or_len (λ o. same_key o.key (key_of h)) os ≡ place_of (map datagram os) h
place_seen [] h = refl
place_seen (o ∷ os) h = ap (λ n. cond (not (same_key o.key (key_of h))) (1 + n) 0) (place_seen os h)

pub place_found : {P H : Type 0} (os : List (Open P H)) (h : IpHead) → unwrap_or (position (λ o. same_key o.key (key_of h)) os) (length os) ≡ place_of (map datagram os) h
place_found os h = place_or_end (λ o. same_key o.key (key_of h)) os ∙ place_seen os h

pub place_within : {P H : Type 0} (os : List (Open P H)) (h : IpHead) → place_of (map datagram os) h ≤ length os
place_within os h = let most = place-le (λ o. same_key o.key (key_of h)) os in let e = place_seen os h in omega arith

pub none_past : {X : Type 0} (xs : List X) (i : ℕ) → length xs ≤ i → slice_get xs i ≡ None
none_past [] i less = refl
none_past (x ∷ xs) zero less = absurd (omega arith)
none_past (x ∷ xs) (suc i) less = none_past xs i (omega arith)
