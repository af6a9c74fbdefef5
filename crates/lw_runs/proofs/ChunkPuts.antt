use Rattle.std.proofs.Common.{◌≡◌, ℕ, ◌+◌, ◌-◌, ◌<◌, ◌≤◌, Bool, true, List, [], ◌∷◌, ◌++◌, map, length, take, drop, set, insert, get_or, if◌then◌else◌, Option, Some, None, refl, sym, ap, ◌∙◌, subst, arith}
use Rattle.std.specs.List.{All}
use Rattle.std.proofs.lemmas.List.{take-append-drop, length-take, length-drop, map-append, take-map, drop-map, map-set, length-map}
use Rattle.std.proofs.lemmas.List.Edits.{insert-append_left, insert-append_right}
use Rattle.std.proofs.lemmas.List.Elements.{All-cons, All-append, All-take, All-drop, All-set}
use Rattle.lw_runs.specs.Lists.{put}
use Rattle.lw_runs.specs.Chunked.{flat, room_of, IsChunk, AreChunks, IsPlace}
use Rattle.lw_runs.specs.declared.run.Run.{Run}
use Rattle.lw_runs.proofs.Flats.{flat_set, flat_split}
use Rattle.lw_runs.proofs.Spreads.{insert_is_put}
use Rattle.lw_runs.proofs.ChunkPlaces.{chunk_is}

-- one more in the front half
pub put_in_front : {A : Type 0} (xs front back new : List A) (at : ℕ) (x : A) (b : Bool) → front ≡ take 16 xs → back ≡ drop 16 xs → length xs ≡ 32 → at ≤ 16 → new ≡ (if b then insert front at x else front) → b ≡ true → new ++ back ≡ insert xs at x
put_in_front xs front back new at x b f k size le e ok =
    let l = length-take 16 xs in
    let all : front ++ back ≡ xs = rw (f, k) (take-append-drop 16 xs) in
    let lf = ap length f in
    rw (e, ok) (sym (insert-append_left front back at x (omega arith)) ∙ ap (λ zs. insert zs at x) all)

-- and in the back half
pub put_in_back : {A : Type 0} (xs front back new : List A) (at : ℕ) (x : A) (b : Bool) → front ≡ take 16 xs → back ≡ drop 16 xs → length xs ≡ 32 → 16 ≤ at → new ≡ (if b then insert back (at - 16) x else back) → b ≡ true → front ++ new ≡ insert xs at x
put_in_back xs front back new at x b f k size le e ok =
    let l = length-take 16 xs in
    let all : front ++ back ≡ xs = rw (f, k) (take-append-drop 16 xs) in
    let lf = ap length f in
    rw (e, ok) (sym (insert-append_right front back 16 at x (omega arith) le) ∙ ap (λ zs. insert zs at x) all)

-- the halves of a full chunk
pub half_front : {A : Type 0} (xs front : List A) → front ≡ take 16 xs → length xs ≡ 32 → length front ≡ 16
half_front xs front f size = let l = length-take 16 xs in let e = ap length f in omega arith

pub half_back : {A : Type 0} (xs back : List A) → back ≡ drop 16 xs → length xs ≡ 32 → length back ≡ 16
half_back xs back k size = let l = length-drop 16 xs in let e = ap length k in omega arith

-- a chunk that isn't full has room
pub chunk_room : {A V : Type 0} (items : V → List A) (capacity : V → ℕ) (vs : List V) (spare : Option V) (k : ℕ) (v w : V) → AreChunks (λ v. length (items v)) capacity vs spare → k < length vs → v ≡ get_or vs k v → w ≡ get_or vs k w → length (items w) < 32 → length (items v) < capacity v
chunk_room {A} {V} items capacity vs spare k v w are more is at few =
    let same = ap length (sym (chunk_is items vs k v more is) ∙ chunk_is items vs k w more at) in
    let fit : IsChunk (length (items v)) (capacity v) = subst (λ (u : V). IsChunk (length (items u)) (capacity u)) (sym is) (are.each k v more) in
    let room = fit.room in
    omega arith

-- and there is a place for one more chunk
pub place_left : {V : Type 0} (spare : Option V) (n capacity : ℕ) → 0 < room_of spare n capacity → n < capacity
place_left None n capacity room = absurd (omega arith)
place_left (Some v) n capacity room = omega arith

map_insert : {V R : Type 0} (items : V → R) (vs : List V) (i : ℕ) (v : V) → map items (insert vs i v) ≡ insert (map items vs) i (items v)
map_insert items vs i v = map-append items (take i vs) (v ∷ drop i vs) ∙ rw (take-map items i vs, drop-map items i vs) refl

all_insert : {V : Type 0} (Q : V → Type 0) (vs : List V) (i : ℕ) (v : V) → Q v → All Q vs → All Q (insert vs i v)
all_insert Q vs i v q all = All-append Q (take i vs) (v ∷ drop i vs) (All-take Q i vs all) (All-cons Q v (drop i vs) q (All-drop Q i vs all))

-- one more in a chunk that stands in a row
pub set_runs : {R V : Type 0} (items : V → List R) (vs : List V) (k at : ℕ) (old new : V) (x : R) (b : Bool) → k < length vs → at ≤ length (get_or (map items vs) k []) → old ≡ get_or vs k old → items new ≡ (if b then insert (items old) at x else items old) → b ≡ true
    → flat (map items (set vs k new)) ≡ insert (flat (map items vs)) (length (flat (take k (map items vs))) + at) x
set_runs items vs k at old new x b more within is e ok =
    let size = length-map vs items in
    let chunk = chunk_is items vs k old more is in
    let one : items new ≡ insert (get_or (map items vs) k []) at x = e ∙ rw (ok, chunk) refl in
    rw (map-set items vs k new, one) (flat_set (map items vs) k at x (omega arith) within)

-- and where the chunk became two
pub split_runs : {R V : Type 0} (items : V → List R) (vs news : List V) (k at : ℕ) (old front back : V) (x : R) (b : Bool) → k < length vs → at ≤ length (get_or (map items vs) k []) → old ≡ get_or vs k old → items front ++ items back ≡ insert (items old) at x
    → news ≡ (if b then insert (set vs k front) (k + 1) back else set vs k front) → b ≡ true
    → flat (map items news) ≡ insert (flat (map items vs)) (length (flat (take k (map items vs))) + at) x
split_runs items vs news k at old front back x b more within is parts e ok =
    let size = length-map vs items in
    let chunk = chunk_is items vs k old more is in
    let all : items front ++ items back ≡ insert (get_or (map items vs) k []) at x = parts ∙ rw chunk refl in
    rw (e, ok, map_insert items (set vs k front) (k + 1) back, map-set items vs k front, flat_split (map items vs) k (items front) (items back) (omega arith), all) (flat_set (map items vs) k at x (omega arith) within)

-- what holds of the fields then
pub split_fits : {V : Type 0} (number capacity : V → ℕ) (vs news : List V) (spare left : Option V) (k : ℕ) (front back : V) (b : Bool) → AreChunks number capacity vs spare → IsChunk (number front) (capacity front) → IsChunk (number back) (capacity back)
    → news ≡ (if b then insert (set vs k front) (k + 1) back else set vs k front) → b ≡ true → left ≡ None → AreChunks number capacity news left
split_fits {V} number capacity vs news spare left k front back b are one two e ok none =
    let Q = λ (v : V). IsChunk (number v) (capacity v) in
    let each : All Q news = rw (e, ok) (all_insert Q (set vs k front) (k + 1) back two (All-set Q vs k front one are.each)) in
    rw none (record { each = each; spare_one = tt })

-- where a run was put in at its place, it is among the others as it has to be
pub put_found : {P : Type 0} (r : Run P) (chunks : List (List (Run P))) (k at : ℕ) (new : List (Run P)) → IsPlace r.at chunks k at → new ≡ insert (flat chunks) (length (flat (take k chunks)) + at) r → new ≡ put r (flat chunks)
put_found r chunks k at new place e = e ∙ rw place.value (insert_is_put r (flat chunks))

pub put_there : {P V : Type 0} (items : V → List (Run P)) (vs lent news : List V) (runs : List (Run P)) (r : Run P) (k at : ℕ) → flat (map items vs) ≡ runs → lent ≡ vs → IsPlace r.at (map items lent) k at
    → flat (map items news) ≡ insert (flat (map items vs)) (length (flat (take k (map items vs))) + at) r → flat (map items news) ≡ put r runs
put_there {P} {V} items vs lent news runs r k at same lends place e =
    let place : IsPlace r.at (map items vs) k at = subst (λ (us : List V). IsPlace r.at (map items us) k at) lends place in
    put_found r (map items vs) k at (flat (map items news)) place e ∙ ap (put r) same
