use Rattle.std.proofs.Common.{◌≡◌, ℕ, zero, suc, ◌+◌, ◌-◌, ◌<◌, ◌≤◌, false, nat_lt, List, [], ◌∷◌, ◌++◌, map, length, take, drop, get_or, refl, sym, ap, ◌∙◌, subst, arith, append_assoc}
use Rattle.std.specs.Bool.{◌==◌}
use Rattle.std.specs.List.{All, list_any, position_or_len}
use Rattle.std.proofs.lemmas.List.{take-map, drop-map, take-append-drop, length-map, map-append}
use Rattle.std.proofs.lemmas.List.Concat.{flat_map-append, get_or-flat_map}
use Rattle.std.proofs.lemmas.List.Elements.{All-nil}
use Rattle.lw_payload.specs.Views.{View}
use Rattle.lw_runs.specs.Runs.{InOrder, bodies_of}
use Rattle.lw_runs.specs.Lists.{text_of}
use Rattle.lw_runs.specs.Chunked.{flat, IsPlace}
use Rattle.lw_runs.specs.declared.run.Run.{Run}
use Rattle.lw_runs.proofs.HoldsLaws.{All-front, All-back}
use Rattle.lw_runs.proofs.Spreads.{touches}
use Rattle.lw_runs.proofs.Searches.{some_begins, none_begins}
use Rattle.lw_runs.proofs.Flats.{take_flat, drop_flat}
use Rattle.lw_runs.proofs.ChunkPlaces.{chunk_is}
use Rattle.lw_runs.proofs.ChunkJoins.{bodies-append, text-append}

-- what isn't empty has one at least
pub not_zero : (n : ℕ) → false ≡ (n == 0) → 0 < n
not_zero zero e = absurd (let f = e in cc)
not_zero (suc n) e = omega arith

-- the run in front of the place decides, where there is one
pub found_run : {P V : Type 0} (seen : P → View) (items : V → List (Run P)) (runs : List (Run P)) (vs lent : List V) (from to k at : ℕ) (v : V) (r : Run P) → from < to → flat (map items vs) ≡ runs → InOrder seen 0 runs → lent ≡ vs → IsPlace (to - 1) (map items lent) k at → 0 < at
    → v ≡ get_or vs k v → r ≡ get_or (items v) (at - 1) r → nat_lt from r.end ≡ list_any (touches from to) runs
found_run {P} {V} seen items runs vs lent from to k at v r some same order lends place first is here =
    let place : IsPlace (to - 1) (map items vs) k at = subst (λ (us : List V). IsPlace (to - 1) (map items us) k at) lends place in
    let more = place.chunk_within in
    let within = place.at_within in
    let size = length-map vs items in
    let chunk = chunk_is items vs k v (omega arith) is in
    let front = length (flat (take k (map items vs))) in
    let before : front + at - 1 ≡ front + (at - 1) = omega arith in
    let there : get_or (flat (map items vs)) (front + at - 1) r ≡ r =
    ap (λ n. get_or (flat (map items vs)) n r) before ∙ get_or-flat_map (λ c. c) (map items vs) k (at - 1) [] r more (omega arith) ∙ ap (λ c. get_or c (at - 1) r) chunk ∙ sym here in
    let order : InOrder seen 0 (flat (map items vs)) = rw same order in
    ap (λ (s : Run P). nat_lt from s.end) (sym there) ∙ some_begins seen (flat (map items vs)) r from to (front + at) some order place.value (omega arith) ∙ ap (λ l. list_any (touches from to) l) same

-- and where there is none
pub found_none : {P V : Type 0} (seen : P → View) (items : V → List (Run P)) (runs : List (Run P)) (vs lent : List V) (from to k at : ℕ) → from < to → flat (map items vs) ≡ runs → InOrder seen 0 runs → lent ≡ vs → IsPlace (to - 1) (map items lent) k at → at ≤ 0
    → nat_lt 0 at ≡ list_any (touches from to) runs
found_none {P} {V} seen items runs vs lent from to k at some same order lends place first =
    let place : IsPlace (to - 1) (map items vs) k at = subst (λ (us : List V). IsPlace (to - 1) (map items us) k at) lends place in
    let front = ap (λ n. length (flat (take n (map items vs)))) (place.first (omega arith)) in
    let value = place.value in
    let order : InOrder seen 0 (flat (map items vs)) = rw same order in
    none_begins seen (flat (map items vs)) from to at some order (omega arith) first ∙ ap (λ l. list_any (touches from to) l) same

all_get : {P : Type 0} (Q : P → Type 0) (chunks : List (List (Run P))) (k : ℕ) → All Q (bodies_of (flat chunks)) → All Q (bodies_of (get_or chunks k []))
all_get Q [] k all = All-nil Q
all_get Q (c ∷ cs) zero all = All-front Q (bodies_of c) (bodies_of (flat cs)) (rw (sym (bodies-append c (flat cs))) all)
all_get Q (c ∷ cs) (suc k) all = all_get Q cs k (All-back Q (bodies_of c) (bodies_of (flat cs)) (rw (sym (bodies-append c (flat cs))) all))

-- what holds of each payload holds of those of one chunk
pub all_chunk : {P V : Type 0} (Q : P → Type 0) (items : V → List (Run P)) (runs : List (Run P)) (vs : List V) (k : ℕ) (v : V) → flat (map items vs) ≡ runs → k < length vs → v ≡ get_or vs k v → All Q (bodies_of runs) → All Q (bodies_of (items v))
all_chunk {P} Q items runs vs k v same more is all =
    subst (λ (c : List (Run P)). All Q (bodies_of c)) (chunk_is items vs k v more is) (all_get Q (map items vs) k (rw same all))

parts_of_flat : {P V : Type 0} (items : V → List (Run P)) (vs : List V) (k : ℕ) → bodies_of (flat (map items vs)) ≡ bodies_of (flat (map items (take k vs))) ++ bodies_of (flat (map items (drop k vs)))
parts_of_flat items vs k =
    ap (λ us. bodies_of (flat (map items us))) (sym (take-append-drop k vs))
    ∙ ap (λ l. bodies_of (flat l)) (map-append items (take k vs) (drop k vs))
    ∙ ap bodies_of (flat_map-append (λ c. c) (map items (take k vs)) (map items (drop k vs)))
    ∙ bodies-append (flat (map items (take k vs))) (flat (map items (drop k vs)))

-- of the first chunks
pub all_front : {P V : Type 0} (Q : P → Type 0) (items : V → List (Run P)) (runs : List (Run P)) (vs lent front : List V) (k : ℕ) → flat (map items vs) ≡ runs → lent ≡ vs → front ≡ take k lent → All Q (bodies_of runs) → All Q (bodies_of (flat (map items front)))
all_front {P} {V} Q items runs vs lent front k same lends is all =
    let parts : bodies_of (flat (map items vs)) ≡ bodies_of (flat (map items (take k vs))) ++ bodies_of (flat (map items (drop k vs))) = parts_of_flat items vs k in
    let first : All Q (bodies_of (flat (map items (take k vs)))) = All-front Q _ (bodies_of (flat (map items (drop k vs)))) (rw (sym parts, same) all) in
    rw (is, lends) first

-- and of the last
pub all_back : {P V : Type 0} (Q : P → Type 0) (items : V → List (Run P)) (runs : List (Run P)) (vs lent back : List V) (k : ℕ) → flat (map items vs) ≡ runs → lent ≡ vs → back ≡ drop k lent → All Q (bodies_of runs) → All Q (bodies_of (flat (map items back)))
all_back {P} {V} Q items runs vs lent back k same lends is all =
    let parts : bodies_of (flat (map items vs)) ≡ bodies_of (flat (map items (take k vs))) ++ bodies_of (flat (map items (drop k vs))) = parts_of_flat items vs k in
    let last : All Q (bodies_of (flat (map items (drop k vs)))) = All-back Q (bodies_of (flat (map items (take k vs)))) _ (rw (sym parts, same) all) in
    rw (is, lends) last

-- the chunk of a place is there
pub place_more : {P V : Type 0} (items : V → List (Run P)) (vs lent : List V) (from k at : ℕ) → lent ≡ vs → IsPlace from (map items lent) k at → k < length vs
place_more items vs lent from k at lends place = let more = place.chunk_within in let size = length-map lent items in let e = ap length lends in omega arith

-- the octets in front of a place were appended
pub copied_front : {P V : Type 0} (seen : P → View) (items : V → List (Run P)) (runs : List (Run P)) (vs lent other front : List V) (chunk part : List (Run P)) (from k at : ℕ) (v : V) (old mid new : List ℕ) → flat (map items vs) ≡ runs → lent ≡ vs → IsPlace from (map items lent) k at → v ≡ get_or vs k v
    → other ≡ vs → front ≡ take k other → chunk ≡ items v → part ≡ take at chunk → mid ≡ old ++ text_of seen (bodies_of (flat (map items front))) → new ≡ mid ++ text_of seen (bodies_of part)
    → new ≡ old ++ text_of seen (bodies_of (take (position_or_len (λ r. nat_lt from r.at) runs) runs))
copied_front {P} {V} seen items runs vs lent other front chunk part from k at v old mid new same lends place is again first own some one two =
    let place : IsPlace from (map items vs) k at = subst (λ (us : List V). IsPlace from (map items us) k at) lends place in
    let more = place.chunk_within in
    let size = length-map vs items in
    let c = chunk_is items vs k v (omega arith) is in
    let parts : take (position_or_len (λ r. nat_lt from r.at) (flat (map items vs))) (flat (map items vs)) ≡ flat (map items (take k vs)) ++ take at (items v) =
    ap (λ n. take n (flat (map items vs))) (sym place.value) ∙ take_flat (map items vs) k at more place.at_within ∙ rw (take-map items k vs, c) refl in
    let text = ap (λ l. text_of seen (bodies_of l)) parts ∙ text-append seen (flat (map items (take k vs))) (take at (items v)) in
    rw (two, one, some, own, first, again, ← same, text) (append_assoc old (text_of seen (bodies_of (flat (map items (take k vs))))) (text_of seen (bodies_of (take at (items v)))))

-- and those behind it
pub copied_back : {P V : Type 0} (seen : P → View) (items : V → List (Run P)) (runs : List (Run P)) (vs lent other back : List V) (chunk part : List (Run P)) (from k at : ℕ) (v : V) (old mid new : List ℕ) → flat (map items vs) ≡ runs → lent ≡ vs → IsPlace from (map items lent) k at → v ≡ get_or vs k v
    → other ≡ vs → back ≡ drop (k + 1) other → chunk ≡ items v → part ≡ drop at chunk → mid ≡ old ++ text_of seen (bodies_of part) → new ≡ mid ++ text_of seen (bodies_of (flat (map items back)))
    → new ≡ old ++ text_of seen (bodies_of (drop (position_or_len (λ r. nat_lt from r.at) runs) runs))
copied_back {P} {V} seen items runs vs lent other back chunk part from k at v old mid new same lends place is again last own some one two =
    let place : IsPlace from (map items vs) k at = subst (λ (us : List V). IsPlace from (map items us) k at) lends place in
    let more = place.chunk_within in
    let size = length-map vs items in
    let c = chunk_is items vs k v (omega arith) is in
    let parts : drop (position_or_len (λ r. nat_lt from r.at) (flat (map items vs))) (flat (map items vs)) ≡ drop at (items v) ++ flat (map items (drop (k + 1) vs)) =
    ap (λ n. drop n (flat (map items vs))) (sym place.value) ∙ drop_flat (map items vs) k at more place.at_within ∙ rw (drop-map items (k + 1) vs, c) refl in
    let text = ap (λ l. text_of seen (bodies_of l)) parts ∙ text-append seen (drop at (items v)) (flat (map items (drop (k + 1) vs))) in
    rw (two, one, some, own, last, again, ← same, text) (append_assoc old (text_of seen (bodies_of (drop at (items v)))) (text_of seen (bodies_of (flat (map items (drop (k + 1) vs))))))
