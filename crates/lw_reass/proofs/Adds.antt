use Rattle.std.proofs.Common.{◌≡◌, ℕ, zero, suc, ◌+◌, ◌<◌, ◌≤◌, Bool, true, false, not, ◌&&◌, nat_le, List, [], ◌∷◌, ◌++◌, map, length, get_or, Option, Some, None, Result, Ok, Err, IfOk, if◌then◌else◌, slice_get, slice_index_or, slice_set, remove, refl, sym, ap, ◌∙◌, subst, arith}
use Rattle.std.specs.Option.{unwrap_or}
use Rattle.std.specs.List.{All}
use Rattle.std.proofs.lemmas.Bool.Decides.{nat_tests}
use Rattle.std.proofs.lemmas.List.{length-map, length-append}
use Rattle.std.proofs.lemmas.List.Elements.{All-push, All-same}
use Rattle.lw_base.specs.declared.heads.IpHead.{IpHead}
use Rattle.lw_payload.specs.Views.{View}
use Rattle.lw_runs.specs.Positions.{overlaps, octets_in, with_octets}
use Rattle.lw_runs.specs.Kept.{Kept as KeptBy, Holds, AreSameButRoom}
use Rattle.lw_runs.proofs.Stands.{same-eq}
use Rattle.lw_reass.specs.Datagrams.{Datagram, Added, place_of, datagram_of, opened, is_open, fits, refusal_of, with_open, with_fragment, head_with, completes, plan_unless, plan_of, whole_head, added, added_by}
use Rattle.lw_reass.specs.Opens.{datagram, bodies_in, kept_in, rooms_in, IsOpen, the_datagram}
use Rattle.lw_reass.specs.Table.{Reassembly, joined, all_kept}
use Rattle.lw_reass.specs.declared.datagram.Open.{Open}
use Rattle.lw_reass.specs.declared.outcome.FragmentPlan.{FragmentPlan}
use Rattle.lw_reass.specs.declared.outcome.FragmentPlan.TheVariants.{Refuse, Keep, Complete}
use Rattle.lw_reass.specs.declared.outcome.Why.{Why}
use Rattle.lw_reass.specs.declared.outcome.Outcome.TheVariants.{Whole, Kept}
use Rattle.lw_reass.proofs.Wholes.{fitting, whole_short}
use Rattle.lw_reass.proofs.Tables.{joined-kept}

-- a datagram of which nothing came is open
pub fresh_open : {P H : Type 0} (seen : P → View) (o : Open P H) (runs : KeptBy P) (h : IpHead) → datagram o ≡ opened h → o.runs ≡ runs → runs.bodies ≡ [] → IsOpen seen o
fresh_open {P} {H} seen o runs h e same none =
    let age : o.age ≡ 0 = ap (λ (d : Datagram). d.age) e in
    let empty : o.runs.octets ≡ [] = ap (λ (d : Datagram). d.octets) e in
    let octets : length o.runs.octets ≡ 0 = ap (λ (d : Datagram). length d.octets) e in
    let end : o.end ≡ None = ap (λ (d : Datagram). d.end) e in
    let bodies : o.runs.bodies ≡ [] = ap (λ (k : KeptBy P). k.bodies) same ∙ none in
    record { young = omega arith; short = omega arith; within = rw end tt; stand = rw bodies empty }

pub pushed_each : {P H : Type 0} (seen : P → View) (os new : List (Open P H)) (o : Open P H) → new ≡ os ++ o ∷ [] → IsOpen seen o → All (IsOpen seen) os → All (IsOpen seen) new
pushed_each seen os new o e is all = All-same (IsOpen seen) new _ e (All-push (IsOpen seen) os o all is)

-- the room of the datagram that was pushed, and its payloads
pub pushed_room : {P H : Type 0} (os new : List (Open P H)) (o : Open P H) (i d e : ℕ) → new ≡ os ++ o ∷ [] → i ≡ length os → o.runs.room ≡ d → get_or (rooms_in new) i e ≡ d
pushed_room os new o i d e is at room = rw (is, at) (last_room os o e ∙ room)
  where
    last_room : {P H : Type 0} (os : List (Open P H)) (o : Open P H) (e : ℕ) → get_or (rooms_in (os ++ o ∷ [])) (length os) e ≡ o.runs.room
    last_room [] o e = refl
    last_room (x ∷ os) o e = last_room os o e

get_is : {X : Type 0} (xs : List X) (i : ℕ) (d : X) → get_or xs i d ≡ unwrap_or (slice_get xs i) d
get_is [] i d = refl
get_is (x ∷ xs) zero d = refl
get_is (x ∷ xs) (suc i) d = get_is xs i d

get_pushed : {X : Type 0} (xs : List X) (i : ℕ) (d : X) → get_or (xs ++ d ∷ []) i d ≡ get_or xs i d
get_pushed [] zero d = refl
get_pushed [] (suc i) d = refl
get_pushed (x ∷ xs) zero d = refl
get_pushed (x ∷ xs) (suc i) d = get_pushed xs i d

-- where the datagram of a fragment is opened, there it stands
pub opened_at : (ds : List Datagram) (h : IpHead) → slice_index_or (with_open ds h) (place_of ds h) (opened h) ≡ datagram_of ds h
opened_at ds h = at (is_open ds h)
  where
    at : (b : Bool) → slice_index_or (if b then ds else ds ++ opened h ∷ []) (place_of ds h) (opened h) ≡ datagram_of ds h
    at true = get_is ds (place_of ds h) (opened h)
    at false = get_pushed ds (place_of ds h) (opened h) ∙ get_is ds (place_of ds h) (opened h)

-- a fragment against which there is no reason
pub record Accepted (ds : List Datagram) (h : IpHead) (n : ℕ) : Type 0 where
  pub fitting : fits (datagram_of ds h) h n ≡ true
  pub free : overlaps (datagram_of ds h).octets h.offset n ≡ false
  pub place : is_open ds h ≡ false → length ds < 5

accepted_by : (a b c : Bool) (x y z : Why) → (if not a then Some x else if b then Some y else if c then Some z else None) ≡ None → (a ≡ true) × (b ≡ false) × (c ≡ false)
accepted_by false b c x y z e = absurd (let f = e in cc)
accepted_by true true c x y z e = absurd (let f = e in cc)
accepted_by true false true x y z e = absurd (let f = e in cc)
accepted_by true false false x y z e = (refl, refl, refl)

few_open : (b : Bool) (n : ℕ) → (not b && nat_le 5 n) ≡ false → b ≡ false → n < 5
few_open true n e f = absurd (let g = f in cc)
few_open false n e f = grind (arith, nat_tests)

pub accepted : (ds : List Datagram) (h : IpHead) (n : ℕ) → refusal_of ds h n ≡ None → Accepted ds h n
accepted ds h n e =
    let all = accepted_by (fits (datagram_of ds h) h n) (not (is_open ds h) && nat_le 5 (length ds)) (overlaps (datagram_of ds h).octets h.offset n) _ _ _ e in
    record { fitting = all.0; free = all.2; place = few_open (is_open ds h) (length ds) all.1 }

-- a fragment that isn't refused, and its place
pub record Planned (ds : List Datagram) (h : IpHead) (n place : ℕ) : Type 0 where
  pub none : refusal_of ds h n ≡ None
  pub at : place ≡ place_of ds h

keeps : (r : Option Why) (b : Bool) (i j : ℕ) (w : IpHead) → plan_unless r b i w ≡ Keep j → (r ≡ None) × (j ≡ i)
keeps (Some why) b i j w e = absurd (let f = e in cc)
keeps None true i j w e = absurd (let f = e in cc)
keeps None false i j w e = (refl, let f = e in cc)

makes : (r : Option Why) (b : Bool) (i j : ℕ) (w v : IpHead) → plan_unless r b i w ≡ Complete j v → (r ≡ None) × (j ≡ i)
makes (Some why) b i j w v e = absurd (let f = e in cc)
makes None true i j w v e = (refl, let f = e in cc)
makes None false i j w v e = absurd (let f = e in cc)

pub planned_keep : (ds : List Datagram) (h : IpHead) (n place : ℕ) → plan_of ds h n ≡ Keep place → Planned ds h n place
unfolding plan_of
planned_keep ds h n place e =
    let all = keeps (refusal_of ds h n) (completes (datagram_of ds h) h n) (place_of ds h) place (unwrap_or (head_with (datagram_of ds h).head h) h) e in
    record { none = all.0; at = all.1 }

pub planned_complete : (ds : List Datagram) (h : IpHead) (n place : ℕ) (w : IpHead) → plan_of ds h n ≡ Complete place w → Planned ds h n place
unfolding plan_of
planned_complete ds h n place w e =
    let all = makes (refusal_of ds h n) (completes (datagram_of ds h) h n) (place_of ds h) place (unwrap_or (head_with (datagram_of ds h).head h) h) w e in
    record { none = all.0; at = all.1 }

-- the plan of a fragment that is refused, and of one that isn't
pub plan_refuse : (ds : List Datagram) (h : IpHead) (n : ℕ) (r : Option Why) (why : Why) → r ≡ Some why → r ≡ refusal_of ds h n → Refuse why ≡ plan_of ds h n
unfolding plan_of
plan_refuse ds h n r why is e =
    sym (ap (λ (x : Option Why). plan_unless x (completes (datagram_of ds h) h n) (place_of ds h) (unwrap_or (head_with (datagram_of ds h).head h) h)) (sym e ∙ is))

pub plan_made : (ds : List Datagram) (h : IpHead) (n place : ℕ) (own : Datagram) (r : Option Why) (b t : Bool) (w : IpHead) → r ≡ None → r ≡ refusal_of ds h n → own ≡ datagram_of ds h → t ≡ completes own h n → t ≡ b → place ≡ place_of ds h → w ≡ unwrap_or (head_with own.head h) h
    → (if b then Complete place w else Keep place) ≡ plan_of ds h n
unfolding plan_of
plan_made ds h n place own r b t w is e same whole there at head =
    let none : refusal_of ds h n ≡ None = sym e ∙ is in
    let made : completes (datagram_of ds h) h n ≡ b = ap (λ (x : Datagram). completes x h n) (sym same) ∙ sym whole ∙ there in
    let head_is : unwrap_or (head_with (datagram_of ds h).head h) h ≡ w = ap (λ (x : Datagram). unwrap_or (head_with x.head h) h) (sym same) ∙ sym head in
    sym (
    ap (λ (x : Option Why). plan_unless x (completes (datagram_of ds h) h n) (place_of ds h) (unwrap_or (head_with (datagram_of ds h).head h) h)) none
    ∙ ap (λ (x : Bool). plan_unless None x (place_of ds h) (unwrap_or (head_with (datagram_of ds h).head h) h)) made
    ∙ ap (λ (i : ℕ). plan_unless None b i (unwrap_or (head_with (datagram_of ds h).head h) h)) (sym at)
    ∙ ap (λ (x : IpHead). plan_unless None b place x) head_is
    )

-- the same of the datagrams that contracts see
pub planned_inside : {P H : Type 0} (ds : List Datagram) (os : List (Open P H)) (h : IpHead) (n place : ℕ) → map datagram os ≡ ds → Planned ds h n place → Planned (map datagram os) h n place
planned_inside ds os h n place seen planned = subst (λ (xs : List Datagram). Planned xs h n place) (sym seen) planned

-- there is a place for its datagram
pub planned_place : {P H : Type 0} (os : List (Open P H)) (h : IpHead) (n place capacity : ℕ) → Planned (map datagram os) h n place → 5 ≤ capacity → is_open (map datagram os) h ≡ false → length os < capacity
planned_place os h n place capacity planned five none =
    let less = (accepted (map datagram os) h n planned.none).place none in
    let size = length-map os datagram in omega arith

-- its datagram was opened where it wasn't open; there it stands
pub the_opened : {P H : Type 0} (ds : List Datagram) (h : IpHead) (n place : ℕ) (os : List (Open P H)) → Planned ds h n place → map datagram os ≡ with_open ds h → the_datagram os place h ≡ datagram_of ds h
the_opened ds h n place os planned datagrams = rw (datagrams, planned.at) (opened_at ds h)

-- five are open at most
pub few_with : {P H : Type 0} (inside os : List (Open P H)) (h : IpHead) (n place : ℕ) → Planned (map datagram inside) h n place → map datagram os ≡ with_open (map datagram inside) h → length inside ≤ 5 → length os ≤ 5
few_with {P} {H} inside os h n place planned datagrams few =
    let ds = map datagram inside in
    let size = sym (length-map os datagram) ∙ ap length datagrams in
    let before : length ds ≡ length inside = length-map inside datagram in
    let most = few_by ds (is_open ds h) (accepted ds h n planned.none).place (omega arith) in
    omega arith
  where
    few_by : (ds : List Datagram) (b : Bool) → (b ≡ false → length ds < 5) → length ds ≤ 5 → length (if b then ds else ds ++ opened h ∷ []) ≤ 5
    few_by ds true less few = few
    few_by ds false less few = let l = length-append ds (opened h ∷ []) in let m = less refl in omega arith

pub fits_opened : {P H : Type 0} (ds : List Datagram) (h : IpHead) (n place : ℕ) (os : List (Open P H)) → Planned ds h n place → map datagram os ≡ with_open ds h → fits (the_datagram os place h) h n ≡ true
fits_opened ds h n place os planned datagrams = rw (the_opened ds h n place os planned datagrams) (accepted ds h n planned.none).fitting

pub free_opened : {P H : Type 0} (ds : List Datagram) (h : IpHead) (n place : ℕ) (os : List (Open P H)) → Planned ds h n place → map datagram os ≡ with_open ds h → overlaps (the_datagram os place h).octets h.offset n ≡ false
free_opened ds h n place os planned datagrams = rw (the_opened ds h n place os planned datagrams) (accepted ds h n planned.none).free

-- what a plan makes of the datagrams that contracts see
pub added_keep : (ds : List Datagram) (h : IpHead) (xs : List ℕ) (place : ℕ) → plan_of ds h (length xs) ≡ Keep place
    → added ds h xs ≡ record { datagrams = slice_set (with_open ds h) place (with_fragment (datagram_of ds h) h xs); outcome = Kept }
added_keep ds h xs place e = ap (λ p. added_by p ds h xs) e

pub added_complete : (ds : List Datagram) (h : IpHead) (xs : List ℕ) (place : ℕ) (w : IpHead) → plan_of ds h (length xs) ≡ Complete place w
    → added ds h xs ≡ record { datagrams = remove (with_open ds h) place; outcome = Whole w (octets_in (with_fragment (datagram_of ds h) h xs).octets) }
added_complete ds h xs place w e = ap (λ p. added_by p ds h xs) e

-- all payloads that contracts see
pub all_seen : {P H : Type 0} (r : Reassembly P) (os : List (Open P H)) → kept_in os ≡ r.kept → bodies_in os ≡ all_kept r
all_seen r os e = sym (joined-kept os) ∙ ap joined e

-- nothing changed but room
pub same_seen : {P H : Type 0} (seen : P → View) (r : Reassembly P) (inside after : List (Open P H)) → kept_in inside ≡ r.kept → kept_in after ≡ kept_in inside → AreSameButRoom seen (all_kept r) (joined (kept_in after))
same_seen seen r inside after e same = same-eq seen (all_kept r) (joined (kept_in after)) (ap joined (same ∙ e))

pub joins_seen : {P H : Type 0} (seen : P → View) (r : Reassembly P) (inside mid after : List (Open P H)) → kept_in inside ≡ r.kept → kept_in mid ≡ kept_in inside → AreSameButRoom seen (bodies_in mid) (bodies_in after) → AreSameButRoom seen (all_kept r) (joined (kept_in after))
joins_seen {P} seen r inside mid after e kept same =
    subst (λ (ps : List P). AreSameButRoom seen ps (joined (kept_in after))) (all_seen r mid (kept ∙ e)) (subst (λ (ps : List P). AreSameButRoom seen (bodies_in mid) ps) (sym (joined-kept after)) same)

-- the datagram that was read is that of the fragment
pub own_seen : {P H : Type 0} (ds : List Datagram) (inside lent : List (Open P H)) (h : IpHead) (n place : ℕ) (own : Datagram) → map datagram inside ≡ ds → lent ≡ inside → Planned ds h n place
    → (place ≡ place_of (map datagram lent) h → own ≡ datagram_of (map datagram lent) h) → own ≡ datagram_of ds h
own_seen {P} {H} ds inside lent h n place own seen same planned read =
    let lent_seen : map datagram lent ≡ ds = ap (λ (x : List (Open P H)). map datagram x) same ∙ seen in
    read (planned.at ∙ ap (λ (x : List Datagram). place_of x h) (sym lent_seen)) ∙ ap (λ (x : List Datagram). datagram_of x h) lent_seen

-- a fragment that makes its datagram whole fits it and overlaps none
pub record Fitted (own : Datagram) (h : IpHead) (n : ℕ) : Type 0 where
  pub some : 0 < n
  pub short : h.offset + n ≤ 65535
  pub free : overlaps own.octets h.offset n ≡ false

pub fitted : (ds : List Datagram) (h : IpHead) (n place : ℕ) (own : Datagram) → Planned ds h n place → own ≡ datagram_of ds h → Fitted own h n
fitted ds h n place own planned e =
    let ok = accepted ds h n planned.none in
    let fit = fitting (datagram_of ds h) h n ok.fitting in
    record { some = fit.some; short = fit.short; free = ap (λ (d : Datagram). overlaps d.octets h.offset n) e ∙ ok.free }

-- what it makes
pub whole_made : (ds : List Datagram) (h : IpHead) (xs octets : List ℕ) (plan : FragmentPlan) (place : ℕ) (v : IpHead) (own : Datagram) → plan ≡ Complete place v → plan ≡ plan_of ds h (length xs) → own ≡ datagram_of ds h → octets ≡ octets_in (with_octets own.octets h.offset xs)
    → (w : IpHead) → whole_head plan ≡ Some w → (added ds h xs).outcome ≡ Whole w octets
whole_made ds h xs octets plan place v own is e same made w head =
    let first : Some v ≡ Some w = ap whole_head (sym is) ∙ head in
    let one : v ≡ w = cc in
    ap (λ (a : Added). a.outcome) (added_complete ds h xs place v (sym e ∙ is))
    ∙ ap (λ (x : IpHead). Whole x (octets_in (with_fragment (datagram_of ds h) h xs).octets)) one
    ∙ ap (λ (d : Datagram). Whole w (octets_in (with_fragment d h xs).octets)) (sym same)
    ∙ ap (λ ys. Whole w ys) (sym made)

-- what holds of all payloads that contracts see
pub all_inside : {P H : Type 0} (Q : P → Type 0) (kept : List (List P)) (inside os : List (Open P H)) → kept_in inside ≡ kept → bodies_in os ≡ bodies_in inside → All Q (joined kept) → All Q (bodies_in os)
all_inside {P} Q kept inside os e same all = All-same Q (bodies_in os) (joined kept) (same ∙ sym (joined-kept inside) ∙ ap joined e) all

pub whole_ok : {E : Type 0} (ds : List Datagram) (h : IpHead) (xs : List ℕ) (plan : FragmentPlan) (place : ℕ) (v : IpHead) (own : Datagram) (r : Result (List ℕ) E) → plan ≡ Complete place v → plan ≡ plan_of ds h (length xs) → own ≡ datagram_of ds h
    → IfOk r (λ octets. octets ≡ octets_in (with_octets own.octets h.offset xs)) → IfOk r (λ octets. (w : IpHead) → whole_head plan ≡ Some w → (added ds h xs).outcome ≡ Whole w octets)
whole_ok ds h xs plan place v own (Ok octets) is e same made = whole_made ds h xs octets plan place v own is e same made
whole_ok ds h xs plan place v own (Err none) is e same made = tt

pub short_ok : {E : Type 0} (octets : List (Option ℕ)) (from : ℕ) (xs : List ℕ) (r : Result (List ℕ) E) → length octets ≤ 65535 → from + length xs ≤ 65535 → IfOk r (λ out. out ≡ octets_in (with_octets octets from xs)) → IfOk r (λ out. length out ≤ 65535)
short_ok octets from xs (Ok out) short fit made = whole_short octets from xs out made short fit
short_ok octets from xs (Err none) short fit made = tt

-- what is kept and given holds what was kept and came
pub holds_seen : {P H : Type 0} (seen : P → View) (body : P) (given : List P) (kept : List (List P)) (inside mid after : List (Open P H)) → kept_in inside ≡ kept → bodies_in mid ≡ bodies_in inside → Holds seen (body ∷ bodies_in mid) (given ++ bodies_in after)
    → Holds seen (body ∷ joined kept) (given ++ joined (kept_in after))
holds_seen {P} seen body given kept inside mid after e same holds =
    let was : bodies_in mid ≡ joined kept = same ∙ sym (joined-kept inside) ∙ ap joined e in
    subst (λ (ps : List P). Holds seen (body ∷ ps) (given ++ joined (kept_in after))) was (subst (λ (ps : List P). Holds seen (body ∷ bodies_in mid) (given ++ ps)) (sym (joined-kept after)) holds)

-- what came of a fragment that was kept, as contracts see it
pub keep_seen : {P H : Type 0} (ds : List Datagram) (inside mid after : List (Open P H)) (h : IpHead) (xs : List ℕ) (place : ℕ) → map datagram inside ≡ ds → plan_of ds h (length xs) ≡ Keep place → map datagram mid ≡ with_open (map datagram inside) h
    → map datagram after ≡ slice_set (map datagram mid) place (with_fragment (the_datagram mid place h) h xs) → map datagram after ≡ (added ds h xs).datagrams
keep_seen ds inside mid after h xs place seen plan opens set_in =
    let opened_in : map datagram mid ≡ with_open ds h = opens ∙ ap (λ (x : List Datagram). with_open x h) seen in
    let own = the_opened ds h (length xs) place mid (planned_keep ds h (length xs) place plan) opened_in in
    set_in ∙ ap (λ (x : List Datagram). slice_set x place (with_fragment (the_datagram mid place h) h xs)) opened_in
    ∙ ap (λ (d : Datagram). slice_set (with_open ds h) place (with_fragment d h xs)) own
    ∙ ap (λ (a : Added). a.datagrams) (sym (added_keep ds h xs place plan))

-- and of one that made its datagram whole
pub complete_seen : {P H : Type 0} (ds : List Datagram) (inside mid after : List (Open P H)) (h : IpHead) (xs : List ℕ) (place : ℕ) (w : IpHead) → map datagram inside ≡ ds → plan_of ds h (length xs) ≡ Complete place w → map datagram mid ≡ with_open (map datagram inside) h
    → map datagram after ≡ remove (map datagram mid) place → map datagram after ≡ (added ds h xs).datagrams
complete_seen ds inside mid after h xs place w seen plan opens out =
    out ∙ ap (λ (x : List Datagram). remove x place) (opens ∙ ap (λ (x : List Datagram). with_open x h) seen) ∙ ap (λ (a : Added). a.datagrams) (sym (added_complete ds h xs place w plan))

pub complete_outcome : {P H : Type 0} (ds : List Datagram) (inside mid : List (Open P H)) (h : IpHead) (xs octets : List ℕ) (place : ℕ) (w : IpHead) → map datagram inside ≡ ds → plan_of ds h (length xs) ≡ Complete place w → map datagram mid ≡ with_open (map datagram inside) h
    → octets ≡ octets_in (with_fragment (the_datagram mid place h) h xs).octets → Whole w octets ≡ (added ds h xs).outcome
complete_outcome ds inside mid h xs octets place w seen plan opens made =
    let opened_in : map datagram mid ≡ with_open ds h = opens ∙ ap (λ (x : List Datagram). with_open x h) seen in
    let own = the_opened ds h (length xs) place mid (planned_complete ds h (length xs) place w plan) opened_in in
    ap (λ ys. Whole w ys) (made ∙ ap (λ (d : Datagram). octets_in (with_fragment d h xs).octets) own) ∙ ap (λ (a : Added). a.outcome) (sym (added_complete ds h xs place w plan))
