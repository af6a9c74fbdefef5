use Rattle.std.proofs.Common.{◌≡◌, ℕ, ◌^◌, ◌<◌, List, [], ◌∷◌, ◌++◌, map, length, set, get_or, Option, refl, sym, ap, ◌∙◌, subst, arith}
use Rattle.std.specs.List.{All, remove}
use Rattle.std.proofs.lemmas.List.{map-append}
use Rattle.std.proofs.lemmas.List.Concat.{flat_map-append}
use Rattle.std.proofs.lemmas.List.Elements.{All-head}
use Rattle.lw_payload.specs.Views.{View}
use Rattle.lw_runs.specs.Kept.{length_of, FirstCanTake}
use Rattle.lw_runs.specs.Runs.{bodies_of}
use Rattle.lw_runs.specs.Lists.{text_of, OneFamily, FirstChanged, FirstHasRoomFor}
use Rattle.lw_runs.specs.Chunked.{flat, IsChunk, AreChunks}
use Rattle.lw_runs.specs.declared.run.Run.{Run}
use Rattle.lw_runs.proofs.Joins.{Joins, TakesOver, joins_none, joins_some}

-- the first payload has other room, where its chunk stands in front of others
changed_front : {P : Type 0} (seen : P → View) (xs ys zs : List (Run P)) → 0 < length xs → FirstChanged seen xs ys → FirstChanged seen (xs ++ zs) (ys ++ zs)
changed_front seen [] ys zs some changed = absurd (omega arith)
changed_front seen (x ∷ xs) ys zs some (q, same, e) = (q, same, ap (λ l. l ++ zs) e)

pub first_changed : {P V : Type 0} (seen : P → View) (items : V → List (Run P)) (vs : List V) (old new : V) → 0 < length vs → old ≡ get_or vs 0 old → 0 < length (items old) → FirstChanged seen (items old) (items new) → FirstChanged seen (flat (map items vs)) (flat (map items (set vs 0 new)))
first_changed seen items [] old new more is some changed = absurd (omega arith)
first_changed {P} {V} seen items (v ∷ vs) old new more is some changed =
    changed_front seen (items v) (items new) (flat (map items vs)) (rw (sym is) some) (subst (λ (w : V). FirstChanged seen (items w) (items new)) is changed)

-- and it has this room
room_front : {P : Type 0} (seen : P → View) (xs zs : List (Run P)) (parts : ℕ) → 0 < length xs → FirstHasRoomFor seen xs parts → FirstHasRoomFor seen (xs ++ zs) parts
room_front seen [] zs parts some room = absurd (omega arith)
room_front seen (x ∷ xs) zs parts some room = room

pub first_has_room : {P V : Type 0} (seen : P → View) (items : V → List (Run P)) (vs : List V) (new : V) (parts : ℕ) → 0 < length vs → 0 < length (items new) → FirstHasRoomFor seen (items new) parts → FirstHasRoomFor seen (flat (map items (set vs 0 new))) parts
first_has_room seen items [] new parts more some room = absurd (omega arith)
first_has_room seen items (v ∷ vs) new parts more some room = room_front seen (items new) (flat (map items vs)) parts some room

-- the payloads of runs one behind another
pub bodies-append : {P : Type 0} (xs ys : List (Run P)) → bodies_of (xs ++ ys) ≡ bodies_of xs ++ bodies_of ys
bodies-append xs ys = map-append (λ r. r.body) xs ys

-- and their octets
pub text-append : {P : Type 0} (seen : P → View) (xs ys : List (Run P)) → text_of seen (bodies_of (xs ++ ys)) ≡ text_of seen (bodies_of xs) ++ text_of seen (bodies_of ys)
text-append seen xs ys = ap (text_of seen) (bodies-append xs ys) ∙ flat_map-append (λ p. (seen p).octets) (bodies_of xs) (bodies_of ys)

-- the payloads of the next chunk, and of those behind it
pub next_chunk : {P V : Type 0} (items : V → List (Run P)) (left rest : List V) (v : V) → left ≡ v ∷ rest → bodies_of (flat (map items left)) ≡ bodies_of (items v) ++ bodies_of (flat (map items rest))
next_chunk items left rest v e = ap (λ vs. bodies_of (flat (map items vs))) e ∙ bodies-append (items v) (flat (map items rest))

first_removed : {P : Type 0} (xs ys : List (Run P)) (r : Run P) → 0 < length xs → r ≡ get_or xs 0 r → ys ≡ remove xs 0 → xs ≡ r ∷ ys
first_removed [] ys r some is e = absurd (omega arith)
first_removed (x ∷ xs) ys r some is e = rw (is, e) refl

-- no chunk is without a run
pub first_some : {V : Type 0} (number capacity : V → ℕ) (vs whole rest : List V) (spare : Option V) (v : V) → AreChunks number capacity vs spare → whole ≡ vs → whole ≡ v ∷ rest → 0 < number v
first_some {V} number capacity vs whole rest spare v are same e =
    (All-head (λ u. IsChunk (number u) (capacity u)) v rest (subst (λ (us : List V). All (λ u. IsChunk (number u) (capacity u)) us) (sym same ∙ e) are.each)).some

-- before any was joined, where the first was taken out of its chunk
pub joins_first : {P V : Type 0} (seen : P → View) (items : V → List (Run P)) (runs : List (Run P)) (vs whole rest : List V) (v w : V) (r : Run P) → flat (map items vs) ≡ runs → whole ≡ vs → whole ≡ v ∷ rest → 0 < length (items v) → r ≡ get_or (items v) 0 r → items w ≡ remove (items v) 0
    → FirstCanTake seen (bodies_of runs) 0 → OneFamily seen (bodies_of runs) → length_of seen (bodies_of runs) < 2 ^ 32 → Joins seen (bodies_of runs) r.body (bodies_of (items w) ++ bodies_of (flat (map items rest)))
joins_first {P} seen items runs vs whole rest v w r same again e some is out room family small =
    let all : runs ≡ r ∷ (items w ++ flat (map items rest)) = sym same ∙ ap (λ us. flat (map items us)) (sym again ∙ e) ∙ ap (λ l. l ++ flat (map items rest)) (first_removed (items v) (items w) r some is out) in
    rw (sym (bodies-append (items w) (flat (map items rest)))) (joins_none seen runs (items w ++ flat (map items rest)) r all room family small)

-- a chunk was joined
pub joins_chunk : {P V : Type 0} (seen : P → View) (items : V → List (Run P)) (whole : List P) (all new : P) (left rest : List V) (v : V) → left ≡ v ∷ rest → Joins seen whole all (bodies_of (flat (map items left))) → TakesOver seen all (bodies_of (items v)) new → Joins seen whole new (bodies_of (flat (map items rest)))
joins_chunk {P} seen items whole all new left rest v e joins over =
    joins_some seen whole all new (bodies_of (items v)) (bodies_of (flat (map items rest))) (subst (λ (ps : List P). Joins seen whole all ps) (next_chunk items left rest v e) joins) over

-- the next chunk of those that are left
pub at_chunk : {P V : Type 0} (seen : P → View) (items : V → List (Run P)) (whole : List P) (all : P) (left rest : List V) (v : V) → left ≡ v ∷ rest → Joins seen whole all (bodies_of (flat (map items left))) → Joins seen whole all (bodies_of (items v) ++ bodies_of (flat (map items rest)))
at_chunk {P} seen items whole all left rest v e joins = subst (λ (ps : List P). Joins seen whole all ps) (next_chunk items left rest v e) joins

-- the first chunk was joined, and the others are left
pub joins_next : {P V : Type 0} (seen : P → View) (items : V → List (Run P)) (whole : List P) (all new : P) (some : List P) (rest left : List V) → left ≡ rest → Joins seen whole all (some ++ bodies_of (flat (map items rest))) → TakesOver seen all some new → Joins seen whole new (bodies_of (flat (map items left)))
joins_next {P} {V} seen items whole all new some rest left e joins over =
    subst (λ (us : List V). Joins seen whole new (bodies_of (flat (map items us)))) (sym e) (joins_some seen whole all new some (bodies_of (flat (map items rest))) joins over)
