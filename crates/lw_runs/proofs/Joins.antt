use Rattle.std.proofs.Common.{◌≡◌, ℕ, ◌+◌, ◌-◌, ◌^◌, ◌<◌, ◌≤◌, List, [], ◌∷◌, ◌++◌, map, length, get_or, Some, refl, sym, ap, ◌∙◌, subst, arith, append_assoc}
use Rattle.std.specs.List.{All}
use Rattle.std.proofs.lemmas.List.{length-append, length-map}
use Rattle.std.proofs.lemmas.List.Sums.{sum_by-cons, sum_by-append}
use Rattle.std.proofs.lemmas.List.Concat.{length-flat_map, flat_map-append}
use Rattle.std.proofs.lemmas.List.Elements.{All-nil, All-cons, All-head, All-tail, All-weaker}
use Rattle.lw_payload.specs.Views.{View}
use Rattle.lw_payload.specs.Calls.{IsJoined}
use Rattle.lw_runs.specs.Positions.{missing, octets_in}
use Rattle.lw_runs.specs.Kept.{Holds, parts_of, length_of, FirstCanTake}
use Rattle.lw_runs.specs.Runs.{spread, bodies_of}
use Rattle.lw_runs.specs.Lists.{text_of, OneFamily}
use Rattle.lw_runs.specs.declared.run.Run.{Run}
use Rattle.lw_runs.proofs.HoldsLaws.{Holds-then, Holds-append, Holds-refl, Holds-join, All-front, All-back}
use Rattle.lw_runs.proofs.Spreads.{octets_in-append, octets_in-missing, octets_in-some}

-- the octets that are there are those of the payloads in order
pub octets_in-spread : {P : Type 0} (seen : P → View) (a : ℕ) (runs : List (Run P)) → octets_in (spread seen a runs) ≡ text_of seen (bodies_of runs)
octets_in-spread seen a [] = refl
octets_in-spread seen a (r ∷ rs) =
    octets_in-append (missing (r.at - a) ++ map Some (seen r.body).octets) (spread seen r.end rs)
    ∙ rw (octets_in-append (missing (r.at - a)) (map Some (seen r.body).octets), octets_in-missing (r.at - a), octets_in-some (seen r.body).octets, octets_in-spread seen r.end rs) refl

-- and as many
pub count-spread : {P : Type 0} (seen : P → View) (a : ℕ) (runs : List (Run P)) → length (octets_in (spread seen a runs)) ≡ length_of seen (bodies_of runs)
count-spread seen a runs = ap length (octets_in-spread seen a runs) ∙ length-flat_map (λ p. (seen p).octets) (bodies_of runs)

-- not more than the positions
pub count-le : {P : Type 0} (seen : P → View) (a : ℕ) (runs : List (Run P)) → length_of seen (bodies_of runs) ≤ length (spread seen a runs)
count-le seen a [] = omega arith
count-le seen a (r ∷ rs) =
    let one = length-append (missing (r.at - a) ++ map Some (seen r.body).octets) (spread seen r.end rs) in
    let two = length-append (missing (r.at - a)) (map Some (seen r.body).octets) in
    let three : length (map Some (seen r.body).octets) ≡ length (seen r.body).octets = length-map (seen r.body).octets Some in
    let four = sum_by-cons (λ p. length (seen p).octets) r.body (bodies_of rs) in
    let rest = count-le seen r.end rs in
    omega arith

-- each is as short as all together
pub all_short : {P : Type 0} (seen : P → View) (ps : List P) → length_of seen ps < 2 ^ 32 → All (λ p. length (seen p).octets < 2 ^ 32) ps
all_short seen [] small = All-nil (λ p. length (seen p).octets < 2 ^ 32)
all_short seen (p ∷ ps) small =
    let e = sum_by-cons (λ q. length (seen q).octets) p ps in
    All-cons (λ q. length (seen q).octets < 2 ^ 32) p ps (omega arith) (all_short seen ps (omega arith))

-- on the way: `all` was joined of the first payloads of `whole`, and `rest` is left
pub record Joins {P : Type 0} (seen : P → View) (whole : List P) (all : P) (rest : List P) : Type 0 where
  pub text : (seen all).octets ++ text_of seen rest ≡ text_of seen whole
  pub holds : Holds seen whole (all ∷ rest)
  pub room : parts_of seen rest ≤ (seen all).room
  pub family : All (λ p. (seen p).family ≡ (seen all).family) rest
  pub small : length_of seen (all ∷ rest) < 2 ^ 32

-- the next is short enough to be joined
pub next_short : {P : Type 0} (seen : P → View) (whole : List P) (all next : P) (rest : List P) → Joins seen whole all (next ∷ rest) → length (seen all).octets + length (seen next).octets < 2 ^ 32
next_short seen whole all next rest joins =
    let small = joins.small in
    let one = sum_by-cons (λ q. length (seen q).octets) all (next ∷ rest) in
    let two = sum_by-cons (λ q. length (seen q).octets) next rest in
    omega arith

pub next_family : {P : Type 0} (seen : P → View) (whole : List P) (all next : P) (rest : List P) → Joins seen whole all (next ∷ rest) → (seen next).family ≡ (seen all).family
next_family seen whole all next rest joins = All-head (λ p. (seen p).family ≡ (seen all).family) next rest joins.family

-- it is joined
pub joins_more : {P : Type 0} (seen : P → View) (whole : List P) (all next new : P) (rest : List P) → Joins seen whole all (next ∷ rest) → IsJoined (seen all) (seen next) (seen new) → Joins seen whole new rest
joins_more {P} seen whole all next new rest joins joined =
    let both : Holds seen (all ∷ next ∷ rest) (new ∷ rest) =
    Holds-append seen (all ∷ next ∷ []) (new ∷ []) rest rest (Holds-join seen all next new (next_short seen whole all next rest joins) joined) (Holds-refl seen rest) in
    record {
      text = rw (joined.octets, append_assoc (seen all).octets (seen next).octets (text_of seen rest)) joins.text;
      holds = Holds-then seen whole (all ∷ next ∷ rest) (new ∷ rest) joins.holds both;
      room = let room = joins.room in let one = sum_by-cons (λ q. (seen q).parts) next rest in let two = joined.room in omega arith;
      family = All-weaker (λ p. (seen p).family ≡ (seen all).family) (λ p. (seen p).family ≡ (seen new).family) (λ p e. e ∙ sym joined.family) rest (All-tail (λ p. (seen p).family ≡ (seen all).family) next rest joins.family);
      small = let small = joins.small in let e = both.octets in omega arith;
    }

-- a payload and those that are to be joined to it
pub joins_begin : {P : Type 0} (seen : P → View) (all : P) (rest : List P) → parts_of seen rest ≤ (seen all).room → All (λ p. (seen p).family ≡ (seen all).family) rest → length_of seen (all ∷ rest) < 2 ^ 32 → Joins seen (all ∷ rest) all rest
joins_begin seen all rest room family small = record { text = refl; holds = Holds-refl seen (all ∷ rest); room = room; family = family; small = small }

-- the first payload of runs, before any was joined
pub joins_none : {P : Type 0} (seen : P → View) (runs rest : List (Run P)) (first : Run P) → runs ≡ first ∷ rest → FirstCanTake seen (bodies_of runs) 0 → OneFamily seen (bodies_of runs) → length_of seen (bodies_of runs) < 2 ^ 32 → Joins seen (bodies_of runs) first.body (bodies_of rest)
joins_none {P} seen runs rest first e room family small =
    let room : FirstCanTake seen (first.body ∷ bodies_of rest) 0 = subst (λ (xs : List (Run P)). FirstCanTake seen (bodies_of xs) 0) e room in
    let family : OneFamily seen (first.body ∷ bodies_of rest) = subst (λ (xs : List (Run P)). OneFamily seen (bodies_of xs)) e family in
    let small : length_of seen (first.body ∷ bodies_of rest) < 2 ^ 32 = subst (λ (xs : List (Run P)). length_of seen (bodies_of xs) < 2 ^ 32) e small in
    subst (λ (xs : List (Run P)). Joins seen (bodies_of xs) first.body (bodies_of rest)) (sym e) (joins_begin seen first.body (bodies_of rest) (omega arith) family small)

-- what joining some of those that are left gives
pub record TakesOver {P : Type 0} (seen : P → View) (all : P) (some : List P) (new : P) : Type 0 where
  pub octets : (seen new).octets ≡ (seen all).octets ++ text_of seen some
  pub holds : Holds seen (all ∷ some) (new ∷ [])
  pub room : (seen all).room ≤ (seen new).room + parts_of seen some

-- some of those that are left are joined
pub joins_some : {P : Type 0} (seen : P → View) (whole : List P) (all new : P) (some rest : List P) → Joins seen whole all (some ++ rest) → TakesOver seen all some new → Joins seen whole new rest
joins_some {P} seen whole all new some rest joins over =
    let same : (seen new).family ≡ (seen all).family =
    All-head (λ p. (seen p).family ≡ (seen all).family) new [] (over.holds.family (seen all).family (All-cons (λ p. (seen p).family ≡ (seen all).family) all some refl (All-front (λ p. (seen p).family ≡ (seen all).family) some rest joins.family))) in
    let both : Holds seen (all ∷ some ++ rest) (new ∷ rest) = Holds-append seen (all ∷ some) (new ∷ []) rest rest over.holds (Holds-refl seen rest) in
    record {
      text = rw (over.octets, append_assoc (seen all).octets (text_of seen some) (text_of seen rest), sym (flat_map-append (λ p. (seen p).octets) some rest)) joins.text;
      holds = Holds-then seen whole (all ∷ some ++ rest) (new ∷ rest) joins.holds both;
      room = let room = joins.room in let one = sum_by-append (λ q. (seen q).parts) some rest in let two = over.room in omega arith;
      family = All-weaker (λ p. (seen p).family ≡ (seen all).family) (λ p. (seen p).family ≡ (seen new).family) (λ p e. e ∙ sym same) rest (All-back (λ p. (seen p).family ≡ (seen all).family) some rest joins.family);
      small = let small = joins.small in let e = both.octets in omega arith;
    }

-- a payload and the runs that are to be joined to it, of which none was
pub begun : {P : Type 0} (seen : P → View) (all : P) (runs left : List (Run P)) → left ≡ runs → parts_of seen (bodies_of runs) ≤ (seen all).room → All (λ p. (seen p).family ≡ (seen all).family) (bodies_of runs) → length_of seen (all ∷ bodies_of runs) < 2 ^ 32
    → Joins seen (all ∷ bodies_of runs) all (bodies_of left) × ((seen all).room + parts_of seen (bodies_of left) ≤ (seen all).room + parts_of seen (bodies_of runs))
begun {P} seen all runs left e room family small =
    subst (λ (xs : List (Run P)). Joins seen (all ∷ bodies_of runs) all (bodies_of xs) × ((seen all).room + parts_of seen (bodies_of xs) ≤ (seen all).room + parts_of seen (bodies_of runs))) (sym e) (joins_begin seen all (bodies_of runs) room family small, omega arith)

-- so much room is left of what there was
pub room_left : {P : Type 0} (seen : P → View) (all new : P) (left rest : List (Run P)) (next : Run P) (had took : ℕ) → left ≡ next ∷ rest → IsJoined (seen all) (seen next.body) (seen new) → had + parts_of seen (bodies_of left) ≤ (seen all).room + took → had + parts_of seen (bodies_of rest) ≤ (seen new).room + took
room_left seen all new left rest next had took e joined was =
    let parts = ap (λ xs. parts_of seen (bodies_of xs)) e in
    let one = sum_by-cons (λ q. (seen q).parts) next.body (bodies_of rest) in
    let room = joined.room in
    omega arith

-- what some of those that are left need to be joined
pub some_room : {P : Type 0} (seen : P → View) (whole : List P) (all : P) (some rest : List P) → Joins seen whole all (some ++ rest) → parts_of seen some ≤ (seen all).room
some_room seen whole all some rest joins = let room = joins.room in let one = sum_by-append (λ q. (seen q).parts) some rest in omega arith

pub some_family : {P : Type 0} (seen : P → View) (whole : List P) (all : P) (some rest : List P) → Joins seen whole all (some ++ rest) → All (λ p. (seen p).family ≡ (seen all).family) some
some_family seen whole all some rest joins = All-front (λ p. (seen p).family ≡ (seen all).family) some rest joins.family

pub some_short : {P : Type 0} (seen : P → View) (whole : List P) (all : P) (some rest : List P) → Joins seen whole all (some ++ rest) → length_of seen (all ∷ some) < 2 ^ 32
some_short seen whole all some rest joins = let small = joins.small in let one = sum_by-append (λ q. length (seen q).octets) (all ∷ some) rest in omega arith

-- the next run on the way
pub at_next : {P : Type 0} (seen : P → View) (whole : List P) (all : P) (left rest : List (Run P)) (next : Run P) → left ≡ next ∷ rest → Joins seen whole all (bodies_of left) → Joins seen whole all (next.body ∷ bodies_of rest)
at_next {P} seen whole all left rest next e joins = subst (λ (xs : List (Run P)). Joins seen whole all (bodies_of xs)) e joins

-- what holds of each payload of runs
pub All-runs : {P : Type 0} (Q : P → Type 0) (runs : List (Run P)) → All Q (bodies_of runs) → All (λ r. Q r.body) runs
All-runs Q [] all = All-nil (λ r. Q r.body)
All-runs Q (r ∷ rs) all = All-cons (λ r. Q r.body) r rs (All-head Q r.body (bodies_of rs) all) (All-runs Q rs (All-tail Q r.body (bodies_of rs) all))

-- a payload that was read is short
pub short_read : {P : Type 0} (seen : P → View) (runs : List (Run P)) (i : ℕ) (r : Run P) → i < length runs → r ≡ get_or runs i r → All (λ p. length (seen p).octets < 2 ^ 32) (bodies_of runs) → length (seen r.body).octets < 2 ^ 32
short_read {P} seen runs i r more is all =
    subst (λ (x : Run P). length (seen x.body).octets < 2 ^ 32) (sym is) (All-runs (λ p. length (seen p).octets < 2 ^ 32) runs all i r more)
