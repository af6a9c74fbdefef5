use Rattle.std.proofs.Common.{◌≡◌, ℕ, zero, suc, ◌<◌, List, [], ◌∷◌, ◌++◌, map, length, get_or, set, take, drop, remove, slice_set, refl, sym, ap, ◌∙◌, subst, arith, append_assoc}
use Rattle.std.specs.List.{All, AllZip}
use Rattle.std.proofs.lemmas.List.{map-append, take-map, drop-map, map-set, get_or-map}
use Rattle.std.proofs.lemmas.List.Concat.{flat_map-append}
use Rattle.std.proofs.lemmas.List.Elements.{All-append, All-take, All-drop, All-set, All-head, All-tail}
use Rattle.lw_base.specs.declared.heads.IpHead.{IpHead}
use Rattle.lw_payload.specs.Views.{View}
use Rattle.lw_runs.specs.Positions.{with_octets, octets_in}
use Rattle.lw_runs.specs.Kept.{Holds, Stand}
use Rattle.lw_runs.proofs.Spreads.{length-with}
use Rattle.lw_runs.proofs.HoldsLaws.{Holds-then, Holds-front, Holds-back, Holds-swap, All-front, All-back}
use Rattle.lw_reass.specs.Datagrams.{Datagram, with_fragment, opened}
use Rattle.lw_reass.specs.Opens.{datagram, bodies_in, kept_in, kept_at, IsOpen, the_datagram, IsWithin}
use Rattle.lw_reass.specs.Table.{joined}
use Rattle.lw_reass.specs.declared.datagram.Open.{Open}
use Rattle.lw_reass.proofs.Wholes.{Fitting, within_with}

-- the datagram at a place is that of the element there
pub datagram_at : {P H : Type 0} (os : List (Open P H)) (i : ℕ) (o : Open P H) (h : IpHead) → i < length os → o ≡ get_or os i o → the_datagram os i h ≡ datagram o
datagram_at os i o h more is = get_or-map datagram os i o (opened h) more ∙ ap datagram (sym is)

-- the payloads before a place, at it, and behind it
pub split_bodies : {P H : Type 0} (os : List (Open P H)) (i : ℕ) (o : Open P H) → i < length os → o ≡ get_or os i o → bodies_in os ≡ bodies_in (take i os) ++ (o.runs.bodies ++ bodies_in (drop (suc i) os))
split_bodies [] i o more is = absurd (omega arith)
split_bodies (x ∷ os) zero o more is = rw is refl
split_bodies (x ∷ os) (suc i) o more is = ap (λ ps. x.runs.bodies ++ ps) (split_bodies os i o (omega arith) is) ∙ sym (append_assoc x.runs.bodies (bodies_in (take i os)) (o.runs.bodies ++ bodies_in (drop (suc i) os)))

pub set_bodies : {P H : Type 0} (os : List (Open P H)) (i : ℕ) (o : Open P H) → i < length os → bodies_in (set os i o) ≡ bodies_in (take i os) ++ (o.runs.bodies ++ bodies_in (drop (suc i) os))
set_bodies [] i o more = absurd (omega arith)
set_bodies (x ∷ os) zero o more = refl
set_bodies (x ∷ os) (suc i) o more = ap (λ ps. x.runs.bodies ++ ps) (set_bodies os i o (omega arith)) ∙ sym (append_assoc x.runs.bodies (bodies_in (take i os)) (o.runs.bodies ++ bodies_in (drop (suc i) os)))

pub removed_bodies : {P H : Type 0} (os : List (Open P H)) (i : ℕ) → bodies_in (remove os i) ≡ bodies_in (take i os) ++ bodies_in (drop (suc i) os)
removed_bodies os i = flat_map-append (λ o. o.runs.bodies) (take i os) (drop (suc i) os)

-- one payload more among those at a place
pub holds_within : {P : Type 0} (seen : P → View) (body : P) (front here new back : List P) → Holds seen (body ∷ here) new → Holds seen (body ∷ (front ++ (here ++ back))) (front ++ (new ++ back))
holds_within {P} seen body front here new back holds =
    let moved : Holds seen ((body ∷ []) ++ front ++ (here ++ back)) (front ++ (body ∷ []) ++ (here ++ back)) = Holds-front seen ((body ∷ []) ++ front) (front ++ (body ∷ [])) (here ++ back) (Holds-swap seen (body ∷ []) front) in
    let there : Holds seen (front ++ ((body ∷ here) ++ back)) (front ++ (new ++ back)) = Holds-back seen front ((body ∷ here) ++ back) (new ++ back) (Holds-front seen (body ∷ here) new back holds) in
    let joined : front ++ (body ∷ []) ++ (here ++ back) ≡ front ++ ((body ∷ here) ++ back) = append_assoc front (body ∷ []) (here ++ back) in
    Holds-then seen _ _ _ moved (subst (λ (ps : List P). Holds seen ps (front ++ (new ++ back))) (sym joined) there)

-- a payload at a place given out
pub holds_out : {P : Type 0} (seen : P → View) (all : P) (front back : List P) → Holds seen (front ++ ((all ∷ []) ++ back)) (all ∷ (front ++ back))
holds_out {P} seen all front back =
    let moved : Holds seen (front ++ (all ∷ []) ++ back) ((all ∷ []) ++ front ++ back) = Holds-front seen (front ++ (all ∷ [])) ((all ∷ []) ++ front) back (Holds-swap seen front (all ∷ [])) in
    subst (λ (ps : List P). Holds seen ps (all ∷ (front ++ back))) (append_assoc front (all ∷ []) back) moved

-- what holds of all payloads holds of those of one datagram
pub here_all : {P H : Type 0} (Q : P → Type 0) (os : List (Open P H)) (i : ℕ) (o : Open P H) → i < length os → o ≡ get_or os i o → All Q (bodies_in os) → All Q o.runs.bodies
here_all {P} Q os i o more is all =
    let split : All Q (bodies_in (take i os) ++ (o.runs.bodies ++ bodies_in (drop (suc i) os))) = subst (λ (ps : List P). All Q ps) (split_bodies os i o more is) all in
    All-front Q o.runs.bodies (bodies_in (drop (suc i) os)) (All-back Q (bodies_in (take i os)) (o.runs.bodies ++ bodies_in (drop (suc i) os)) split)

-- those of the datagram at a place are those of the element there
pub kept_there : {P H : Type 0} (os : List (Open P H)) (i : ℕ) (o : Open P H) → i < length os → o ≡ get_or os i o → kept_at os i ≡ o.runs.bodies
kept_there os i o more is = get_or-map (λ o. o.runs.bodies) os i o [] more ∙ ap (λ o. o.runs.bodies) (sym is)

-- a datagram less
pub map-remove : {X Y : Type 0} (f : X → Y) (xs : List X) (i : ℕ) → map f (remove xs i) ≡ remove (map f xs) i
map-remove f xs i = map-append f (take i xs) (drop (suc i) xs) ∙ rw (take-map f i xs, drop-map f (suc i) xs) refl

pub removed_all : {X : Type 0} (Q : X → Type 0) (xs : List X) (i : ℕ) → All Q xs → All Q (remove xs i)
removed_all Q xs i all = All-append Q (take i xs) (drop (suc i) xs) (All-take Q i xs all) (All-drop Q (suc i) xs all)

-- it is open still after a fragment that fits
pub open_with : {P H : Type 0} (seen : P → View) (o new : Open P H) (h : IpHead) (xs : List ℕ) → IsOpen seen o → Fitting (datagram o) h (length xs) → datagram new ≡ with_fragment (datagram o) h xs → Stand seen new.runs.octets new.runs.bodies → IsOpen seen new
open_with seen o new h xs is fit e stand =
    let reach = length-with o.runs.octets h.offset xs in
    let octets : new.runs.octets ≡ with_octets o.runs.octets h.offset xs = ap (λ (d : Datagram). d.octets) e in
    let age : new.age ≡ o.age = ap (λ (d : Datagram). d.age) e in
    record {
      young = let y = is.young in omega arith;
      short = let s = is.short in let t = fit.short in let l = ap length octets in omega arith;
      within = subst (λ (d : Datagram). IsWithin d.end d.octets) (sym e) (within_with (datagram o) h (length xs) xs refl is.within fit);
      stand = stand;
    }

-- a fragment is kept
pub kept_datagrams : {P H : Type 0} (os : List (Open P H)) (i : ℕ) (o new : Open P H) (h : IpHead) (xs : List ℕ) → i < length os → o ≡ get_or os i o → datagram new ≡ with_fragment (datagram o) h xs
    → map datagram (set os i new) ≡ slice_set (map datagram os) i (with_fragment (the_datagram os i h) h xs)
kept_datagrams os i o new h xs more is e =
    map-set datagram os i new ∙ ap (λ d. slice_set (map datagram os) i d) (e ∙ ap (λ d. with_fragment d h xs) (sym (datagram_at os i o h more is)))

pub kept_bodies : {P H : Type 0} (seen : P → View) (os : List (Open P H)) (i : ℕ) (o new : Open P H) (body : P) → i < length os → o ≡ get_or os i o → Holds seen (body ∷ o.runs.bodies) new.runs.bodies → Holds seen (body ∷ bodies_in os) (bodies_in (set os i new))
kept_bodies {P} seen os i o new body more is holds =
    subst (λ (ps : List P). Holds seen (body ∷ ps) (bodies_in (set os i new))) (sym (split_bodies os i o more is))
    (subst (λ (ps : List P). Holds seen (body ∷ (bodies_in (take i os) ++ (o.runs.bodies ++ bodies_in (drop (suc i) os)))) ps) (sym (set_bodies os i new more))
    (holds_within seen body (bodies_in (take i os)) o.runs.bodies new.runs.bodies (bodies_in (drop (suc i) os)) holds))

pub kept_each : {P H : Type 0} (seen : P → View) (os : List (Open P H)) (i : ℕ) (o new : Open P H) (h : IpHead) (xs : List ℕ) → i < length os → o ≡ get_or os i o → All (IsOpen seen) os → Fitting (the_datagram os i h) h (length xs) → datagram new ≡ with_fragment (datagram o) h xs → Stand seen new.runs.octets new.runs.bodies
    → All (IsOpen seen) (set os i new)
kept_each {P} {H} seen os i o new h xs more is all fit e stand =
    let open_there : IsOpen seen o = subst (λ (x : Open P H). IsOpen seen x) (sym is) (all i o more) in
    let fit_there : Fitting (datagram o) h (length xs) = subst (λ (d : Datagram). Fitting d h (length xs)) (datagram_at os i o h more is) fit in
    All-set (IsOpen seen) os i new (open_with seen o new h xs open_there fit_there e stand) all

-- a datagram is whole
pub whole_datagrams : {P H : Type 0} (os left : List (Open P H)) (i : ℕ) → left ≡ remove os i → map datagram left ≡ remove (map datagram os) i
whole_datagrams os left i e = ap (λ ys. map datagram ys) e ∙ map-remove datagram os i

pub whole_octets : {P H : Type 0} (os : List (Open P H)) (i : ℕ) (o : Open P H) (h : IpHead) (xs octets : List ℕ) → i < length os → o ≡ get_or os i o → octets ≡ octets_in (with_octets o.runs.octets h.offset xs) → octets ≡ octets_in (with_fragment (the_datagram os i h) h xs).octets
whole_octets os i o h xs octets more is e = e ∙ sym (ap (λ (d : Datagram). octets_in (with_fragment d h xs).octets) (datagram_at os i o h more is))

pub whole_bodies : {P H : Type 0} (seen : P → View) (os left : List (Open P H)) (i : ℕ) (o : Open P H) (body all : P) → i < length os → o ≡ get_or os i o → left ≡ remove os i → Holds seen (body ∷ o.runs.bodies) (all ∷ []) → Holds seen (body ∷ bodies_in os) (all ∷ bodies_in left)
whole_bodies {P} {H} seen os left i o body all more is e holds =
    let front = bodies_in (take i os) in
    let back = bodies_in (drop (suc i) os) in
    let kept : bodies_in left ≡ front ++ back = ap (λ (x : List (Open P H)). bodies_in x) e ∙ removed_bodies os i in
    let there : Holds seen (body ∷ (front ++ (o.runs.bodies ++ back))) (all ∷ (front ++ back)) =
    Holds-then seen _ _ _ (holds_within seen body front o.runs.bodies (all ∷ []) back holds) (holds_out seen all front back) in
    subst (λ (ps : List P). Holds seen (body ∷ ps) (all ∷ bodies_in left)) (sym (split_bodies os i o more is)) (subst (λ (ps : List P). Holds seen (body ∷ (front ++ (o.runs.bodies ++ back))) (all ∷ ps)) (sym kept) there)

-- the payloads of all datagrams are those of each, one behind another
pub joined-kept : {P H : Type 0} (os : List (Open P H)) → joined (kept_in os) ≡ bodies_in os
joined-kept [] = refl
joined-kept (o ∷ os) = ap (λ ps. o.runs.bodies ++ ps) (joined-kept os)

-- and those of each stand in its octets
pub tied : {P H : Type 0} (seen : P → View) (os : List (Open P H)) → All (IsOpen seen) os → AllZip (λ d ps. Stand seen d.octets ps) (map datagram os) (kept_in os)
tied seen [] all = tt
tied seen (o ∷ os) all = ((All-head (IsOpen seen) o os all).stand, tied seen os (All-tail (IsOpen seen) o os all))
