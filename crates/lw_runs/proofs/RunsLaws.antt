use Rattle.std.proofs.Common.{◌≡◌, ℕ, ◌+◌, ◌-◌, ◌^◌, ◌<◌, ◌≤◌, max, false, List, [], ◌∷◌, length, Option, Some, refl, sym, ap, ◌∙◌, subst, arith}
use Rattle.std.specs.Option.{SomeIff}
use Rattle.std.specs.List.{list_any, All}
use Rattle.std.proofs.lemmas.List.Elements.{All-head, All-tail, All-weaker}
use Rattle.std.proofs.lemmas.List.{length-map}
use Rattle.std.proofs.lemmas.List.Sums.{sum_by-cons}
use Rattle.lw_payload.specs.Views.{View}
use Rattle.lw_payload.specs.Calls.{IsSameButRoom}
use Rattle.lw_runs.specs.Positions.{with_octets, overlaps, octets_in}
use Rattle.lw_runs.specs.Kept.{Holds, parts_of, length_of, FirstCanTake, CanJoin}
use Rattle.lw_runs.specs.Runs.{spread, InOrder, bodies_of, AreRuns}
use Rattle.lw_runs.specs.Lists.{put, text_of, OneFamily, FirstChanged, FirstHasRoomFor}
use Rattle.lw_runs.specs.declared.run.Run.{Run}
use Rattle.lw_runs.proofs.Windows.{there}
use Rattle.lw_runs.proofs.Spreads.{touches, there_in_runs, count_with, length-with}
use Rattle.lw_runs.proofs.Puts.{Fits, spread_put, order_put, sum_put, all_put, length_put, holds_put, first_put}
use Rattle.lw_runs.proofs.HoldsLaws.{Holds-refl, Holds-front, Holds-room}
use Rattle.lw_runs.proofs.Joins.{count-spread, count-le, all_short, octets_in-spread}

-- an octet is there at one of n positions exactly where a run has one of them
pub overlaps_is : {P : Type 0} (seen : P → View) (runs : List (Run P)) (from n : ℕ) → 0 < n → InOrder seen 0 runs → list_any (touches from (from + n)) runs ≡ overlaps (spread seen 0 runs) from n
overlaps_is seen runs from n some order =
    let low : from - 0 ≡ from = omega arith in
    let wide : from + n - 0 - from ≡ n = omega arith in
    let e : there (spread seen 0 runs) (from - 0) (from + n - 0) ≡ list_any (touches from (from + n)) runs = there_in_runs seen 0 runs from (from + n) (omega arith) order in
    sym e ∙ rw (low, wide) refl

-- a run that overlaps none may be put among them
pub fits_in : {P : Type 0} (seen : P → View) (r : Run P) (runs : List (Run P)) (n : ℕ) → 0 < n → n ≡ length (seen r.body).octets → r.end ≡ r.at + n → InOrder seen 0 runs → overlaps (spread seen 0 runs) r.at n ≡ false → Fits seen 0 r runs
fits_in seen r runs n some size end order free = record {
  low = omega arith;
  some = omega arith;
  size = omega arith;
  order = order;
  free = rw end (overlaps_is seen runs r.at n some order ∙ free);
}

-- its octets are put in from its place on
pub put_octets : {P : Type 0} (seen : P → View) (r : Run P) (runs : List (Run P)) → Fits seen 0 r runs → spread seen 0 (put r runs) ≡ with_octets (spread seen 0 runs) r.at (seen r.body).octets
put_octets seen r runs fits = let z : r.at - 0 ≡ r.at = omega arith in spread_put seen 0 r runs fits ∙ rw z refl

-- one run more
pub AreRuns-put : {P : Type 0} (seen : P → View) (r : Run P) (runs : List (Run P)) (reach count parts number : ℕ) → AreRuns seen runs reach count parts number → Fits seen 0 r runs
    → overlaps (spread seen 0 runs) r.at (length (seen r.body).octets) ≡ false → (seen r.body).parts ≤ length (seen r.body).octets → r.end < 2 ^ 32
    → All (λ p. (seen p).family ≡ (seen r.body).family) (bodies_of runs)
    → AreRuns seen (put r runs) (max reach r.end) (count + (r.end - r.at)) (parts + (seen r.body).parts) (number + 1)
AreRuns-put seen r runs reach count parts number are fits free few short family =
    let octets = put_octets seen r runs fits in
    let size = fits.size in
    let was = are.reach in
    let small = are.short in
    record {
      order = order_put seen 0 r runs fits;
      reach = rw (octets, length-with (spread seen 0 runs) r.at (seen r.body).octets, are.reach, size) refl;
      count = let e = count_with (spread seen 0 runs) r.at (seen r.body).octets free in let n = are.count in rw octets (omega arith);
      all_parts = let e = sum_put (λ p. (seen p).parts) r runs in let n = are.all_parts in omega arith;
      few = let n = are.few in omega arith;
      short = omega arith;
      family = ((seen r.body).family, all_put (λ p. (seen p).family ≡ (seen r.body).family) r runs refl family);
      all_runs = let l = length_put r runs in let n = are.all_runs in omega arith;
    }

-- all octets together are few enough for a count
pub few_octets : {P : Type 0} (seen : P → View) (runs : List (Run P)) (reach count parts number : ℕ) → AreRuns seen runs reach count parts number → (count ≡ length_of seen (bodies_of runs)) × (count ≤ reach) × (count < 2 ^ 32)
few_octets seen runs reach count parts number are =
    let a = count-spread seen 0 runs in let b = count-le seen 0 runs in let c = are.count in let d = are.reach in let e = are.short in
    (omega arith, omega arith, omega arith)

pub runs_short : {P : Type 0} (seen : P → View) (runs : List (Run P)) (reach count parts number : ℕ) → AreRuns seen runs reach count parts number → All (λ p. length (seen p).octets < 2 ^ 32) (bodies_of runs)
runs_short seen runs reach count parts number are =
    let few = few_octets seen runs reach count parts number are in all_short seen (bodies_of runs) (let a = few.0 in let b = few.2 in omega arith)

-- runs are no more than their octets
pub number-le : {P : Type 0} (seen : P → View) (a : ℕ) (runs : List (Run P)) → InOrder seen a runs → length runs ≤ length_of seen (bodies_of runs)
number-le seen a [] order = omega arith
number-le seen a (r ∷ rs) order =
    let e = sum_by-cons (λ p. length (seen p).octets) r.body (bodies_of rs) in let rest = number-le seen r.end rs order.3 in let some = order.1 in let size = order.2 in omega arith

pub few_runs : {P : Type 0} (seen : P → View) (runs : List (Run P)) (reach count parts number : ℕ) → AreRuns seen runs reach count parts number → length runs ≤ reach
few_runs seen runs reach count parts number are =
    let few = few_octets seen runs reach count parts number are in let n = number-le seen 0 runs are.order in let a = few.0 in let b = few.1 in omega arith

-- the first payload has only other room
changed_spread : {P : Type 0} (seen : P → View) (a : ℕ) (r : Run P) (q : P) (rs : List (Run P)) → IsSameButRoom (seen r.body) (seen q) → spread seen a (record r { body = q } ∷ rs) ≡ spread seen a (r ∷ rs)
changed_spread seen a r q rs same = rw same.octets refl

pub changed_octets : {P : Type 0} (seen : P → View) (before after : List (Run P)) → FirstChanged seen before after → spread seen 0 after ≡ spread seen 0 before
changed_octets seen [] after e = ap (spread seen 0) e
changed_octets seen (r ∷ rs) after (q, same, e) = ap (spread seen 0) e ∙ changed_spread seen 0 r q rs same

pub changed_bodies : {P : Type 0} (seen : P → View) (before after : List (Run P)) → FirstChanged seen before after → Holds seen (bodies_of before) (bodies_of after)
changed_bodies {P} seen [] after e = subst (λ (x : List (Run P)). Holds seen [] (bodies_of x)) (sym e) (Holds-refl seen [])
changed_bodies {P} seen (r ∷ rs) after (q, same, e) =
    subst (λ (x : List (Run P)). Holds seen (r.body ∷ bodies_of rs) (bodies_of x)) (sym e) (Holds-front seen (r.body ∷ []) (q ∷ []) (bodies_of rs) (Holds-room seen r.body q same))

pub changed_length : {P : Type 0} (seen : P → View) (before after : List (Run P)) → FirstChanged seen before after → length after ≡ length before
changed_length seen [] after e = ap length e
changed_length seen (r ∷ rs) after (q, same, e) = ap length e

pub changed_order : {P : Type 0} (seen : P → View) (before after : List (Run P)) → FirstChanged seen before after → InOrder seen 0 before → InOrder seen 0 after
changed_order {P} seen [] after e order = subst (λ (x : List (Run P)). InOrder seen 0 x) (sym e) order
changed_order {P} seen (r ∷ rs) after (q, same, e) order =
    subst (λ (x : List (Run P)). InOrder seen 0 x) (sym e) (order.0, order.1, order.2 ∙ rw same.octets refl, order.3)

-- then they are runs as before
pub AreRuns-changed : {P : Type 0} (seen : P → View) (before after : List (Run P)) (reach count parts number : ℕ) → AreRuns seen before reach count parts number → FirstChanged seen before after → AreRuns seen after reach count parts number
AreRuns-changed seen before after reach count parts number are changed =
    let holds = changed_bodies seen before after changed in
    record {
      order = changed_order seen before after changed are.order;
      reach = rw (changed_octets seen before after changed) are.reach;
      count = rw (changed_octets seen before after changed) are.count;
      all_parts = are.all_parts ∙ sym holds.parts;
      few = are.few;
      short = are.short;
      family = (are.family.0, holds.family are.family.0 are.family.1);
      all_runs = are.all_runs ∙ sym (changed_length seen before after changed);
    }

first_takes : {P : Type 0} (seen : P → View) (runs : List (Run P)) (n all : ℕ) → all ≡ parts_of seen (bodies_of runs) + n → FirstHasRoomFor seen runs all → FirstCanTake seen (bodies_of runs) n
first_takes seen [] n all e h = tt
first_takes seen (r ∷ rs) n all e h = let s = sum_by-cons (λ p. (seen p).parts) r.body (bodies_of rs) in omega arith

-- where the payloads and one more have room for one another's parts, they can be joined
pub can_join : {P : Type 0} (seen : P → View) (before after : List (Run P)) (body : View) (parts n all : ℕ) → FirstChanged seen before after → parts ≡ parts_of seen (bodies_of before) → n ≡ body.parts → all ≡ parts + n → parts ≤ body.room → FirstHasRoomFor seen after all → CanJoin seen (bodies_of after) body
can_join seen before after body parts n all changed e same sum own first =
    let p = (changed_bodies seen before after changed).parts in
    (first_takes seen after body.parts all (omega arith) first, omega arith)

-- the run of a payload at a position
abbrev pub run_at : {P : Type 0} → ℕ → ℕ → P → Run P
run_at from n body = record { at = from; end = from + n; body = body }

-- a payload that may be kept from a position on, where runs are seen as octets and payloads
pub record MayKeep {P : Type 0} (seen : P → View) (runs : List (Run P)) (octets : List (Option ℕ)) (bodies : List P) (reach count parts number from n : ℕ) (body : P) : Type 0 where
  pub are : AreRuns seen runs reach count parts number
  pub seen_octets : spread seen 0 runs ≡ octets
  pub seen_bodies : bodies_of runs ≡ bodies
  pub size : n ≡ length (seen body).octets
  pub some : 0 < length (seen body).octets
  pub short : from + length (seen body).octets < 2 ^ 32
  pub free : overlaps octets from (length (seen body).octets) ≡ false
  pub family : All (λ p. (seen p).family ≡ (seen body).family) bodies

-- and what is kept then
pub record IsKept {P : Type 0} (seen : P → View) (new : List (Run P)) (octets : List (Option ℕ)) (bodies : List P) (reach count parts number from n k : ℕ) (body : P) : Type 0 where
  pub are : AreRuns seen new (max reach (from + n)) (count + (from + n - from)) (parts + k) (number + 1)
  pub seen_octets : spread seen 0 new ≡ with_octets octets from (seen body).octets
  pub holds : Holds seen (body ∷ bodies) (bodies_of new)
  pub one_more : length (bodies_of new) ≡ length bodies + 1
  pub few : (count + (from + n - from) < 2 ^ 32) × (parts + k < 2 ^ 32) × (number + 1 < 2 ^ 32)

may_fit : {P : Type 0} (seen : P → View) (runs : List (Run P)) (octets : List (Option ℕ)) (bodies : List P) (reach count parts number from n : ℕ) (body : P)
    → MayKeep seen runs octets bodies reach count parts number from n body → (overlaps (spread seen 0 runs) from (length (seen body).octets) ≡ false) × Fits seen 0 (run_at from n body) runs
may_fit seen runs octets bodies reach count parts number from n body may =
    let free : overlaps (spread seen 0 runs) from (length (seen body).octets) ≡ false = rw may.seen_octets may.free in
    let same : overlaps (spread seen 0 runs) from n ≡ false = rw may.size free in
    (free, fits_in seen (run_at from n body) runs n (let s = may.some in let e = may.size in omega arith) may.size refl may.are.order same)

keeps_put : {P : Type 0} (seen : P → View) (runs : List (Run P)) (octets : List (Option ℕ)) (bodies : List P) (reach count parts number from n k : ℕ) (body : P)
    → MayKeep seen runs octets bodies reach count parts number from n body → k ≡ (seen body).parts → (seen body).parts ≤ length (seen body).octets → IsKept seen (put (run_at from n body) runs) octets bodies reach count parts number from n k body
keeps_put seen runs octets bodies reach count parts number from n k body may all_parts few_parts =
    let fit = may_fit seen runs octets bodies reach count parts number from n body may in
    let family : All (λ p. (seen p).family ≡ (seen body).family) (bodies_of runs) = rw may.seen_bodies may.family in
    let are : AreRuns seen (put (run_at from n body) runs) (max reach (from + n)) (count + (from + n - from)) (parts + k) (number + 1) =
    rw all_parts
    (AreRuns-put seen (run_at from n body) runs reach count parts number may.are fit.1 fit.0 few_parts
    (let s = may.short in let e = may.size in omega arith) family) in
    let few = few_octets seen (put (run_at from n body) runs) (max reach (from + n)) (count + (from + n - from)) (parts + k) (number + 1) are in
    let runs_few = few_runs seen (put (run_at from n body) runs) (max reach (from + n)) (count + (from + n - from)) (parts + k) (number + 1) are in
    record {
      are = are;
      seen_octets = put_octets seen (run_at from n body) runs fit.1 ∙ rw may.seen_octets refl;
      holds = rw (sym may.seen_bodies) (holds_put seen (run_at from n body) runs);
      one_more = rw (sym may.seen_bodies) (length-map (put (run_at from n body) runs) (λ r. r.body) ∙ length_put (run_at from n body) runs ∙ ap (λ m. m + 1) (sym (length-map runs (λ r. r.body))));
      few = let a = few.2 in let b = are.few in let l = are.all_runs in let s = are.short in (omega arith, omega arith, omega arith);
    }

-- one payload more is kept
pub keeps : {P : Type 0} (seen : P → View) (runs new : List (Run P)) (octets : List (Option ℕ)) (bodies : List P) (reach count parts number from n k : ℕ) (body : P)
    → MayKeep seen runs octets bodies reach count parts number from n body → k ≡ (seen body).parts → (seen body).parts ≤ length (seen body).octets → new ≡ put (run_at from n body) runs → IsKept seen new octets bodies reach count parts number from n k body
keeps {P} seen runs new octets bodies reach count parts number from n k body may all_parts few_parts e =
    subst (λ (xs : List (Run P)). IsKept seen xs octets bodies reach count parts number from n k body) (sym e) (keeps_put seen runs octets bodies reach count parts number from n k body may all_parts few_parts)

one_family : {P : Type 0} (seen : P → View) (f : List ℕ) (ps : List P) → All (λ p. (seen p).family ≡ f) ps → OneFamily seen ps
one_family seen f [] all = tt
one_family seen f (p ∷ ps) all =
    All-weaker (λ q. (seen q).family ≡ f) (λ q. (seen q).family ≡ (seen p).family) (λ q e. e ∙ sym (All-head (λ q. (seen q).family ≡ f) p ps all)) ps (All-tail (λ q. (seen q).family ≡ f) p ps all)

-- runs that may be joined, and what they give
pub record MayJoin {P : Type 0} (seen : P → View) (new : List (Run P)) (octets : List ℕ) (bodies : List P) : Type 0 where
  pub some : 0 < length new
  pub room : FirstCanTake seen (bodies_of new) 0
  pub family : OneFamily seen (bodies_of new)
  pub short : length_of seen (bodies_of new) < 2 ^ 32
  pub text : text_of seen (bodies_of new) ≡ octets
  pub holds : Holds seen bodies (bodies_of new)

joins_put : {P : Type 0} (seen : P → View) (runs : List (Run P)) (octets : List (Option ℕ)) (bodies : List P) (reach count parts number from n : ℕ) (body : P)
    → MayKeep seen runs octets bodies reach count parts number from n body → CanJoin seen bodies (seen body)
    → MayJoin seen (put (run_at from n body) runs) (octets_in (with_octets octets from (seen body).octets)) (body ∷ bodies)
joins_put seen runs octets bodies reach count parts number from n body may can =
    let r = run_at from n body in
    let fit = may_fit seen runs octets bodies reach count parts number from n body may in
    let family : All (λ p. (seen p).family ≡ (seen body).family) (bodies_of runs) = rw may.seen_bodies may.family in
    let put_in = put_octets seen r runs fit.1 in
    let reaches = ap length put_in ∙ length-with (spread seen 0 runs) from (seen body).octets in
    let most = count-le seen 0 (put r runs) in
    record {
      some = let l = length_put r runs in omega arith;
      room = first_put seen r runs (rw may.seen_bodies can.0) (rw may.seen_bodies can.1);
      family = one_family seen (seen body).family (bodies_of (put r runs)) (all_put (λ p. (seen p).family ≡ (seen body).family) r runs refl family);
      short = let s = may.short in let t = may.are.short in let u = may.are.reach in omega arith;
      text = sym (octets_in-spread seen 0 (put r runs)) ∙ ap octets_in put_in ∙ rw may.seen_octets refl;
      holds = rw (sym may.seen_bodies) (holds_put seen r runs);
    }

-- one payload more is put in, and all may be joined
pub joins_in : {P : Type 0} (seen : P → View) (runs new : List (Run P)) (octets : List (Option ℕ)) (bodies : List P) (reach count parts number from n : ℕ) (body : P)
    → MayKeep seen runs octets bodies reach count parts number from n body → CanJoin seen bodies (seen body) → new ≡ put (run_at from n body) runs
    → MayJoin seen new (octets_in (with_octets octets from (seen body).octets)) (body ∷ bodies)
joins_in {P} seen runs new octets bodies reach count parts number from n body may can e =
    subst (λ (xs : List (Run P)). MayJoin seen xs (octets_in (with_octets octets from (seen body).octets)) (body ∷ bodies)) (sym e) (joins_put seen runs octets bodies reach count parts number from n body may can)

-- what an addition that fits gives
pub some_is : (o : Option ℕ) (Q : Type 0) (v x : ℕ) → SomeIff o Q v → o ≡ Some x → x ≡ v
some_is o Q v x h e = let h : SomeIff (Some x) Q v = subst (λ (y : Option ℕ). SomeIff y Q v) e h in h.1
