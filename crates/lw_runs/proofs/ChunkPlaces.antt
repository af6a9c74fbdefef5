use Rattle.std.proofs.Common.{◌≡◌, ℕ, zero, suc, ◌+◌, ◌-◌, ◌<◌, ◌≤◌, Bool, true, false, not, cond, nat_lt, nat_le, List, [], ◌∷◌, ◌++◌, map, length, take, get_or, refl, sym, ap, ◌∙◌, subst, inl, inr, arith}
use Rattle.std.specs.List.{All, position_or_len}
use Rattle.std.specs.List.Sorted.{IsPartitionPoint, IsPartitionedBy}
use Rattle.std.proofs.lemmas.Bool.{cases_lt}
use Rattle.std.proofs.lemmas.List.{length-append, length-map, get_or-map}
use Rattle.std.proofs.lemmas.List.Sums.{position_or_len_is}
use Rattle.std.proofs.lemmas.List.Elements.{All-head, All-tail, All-map}
use Rattle.lw_payload.specs.Views.{View}
use Rattle.lw_runs.specs.Runs.{InOrder}
use Rattle.lw_runs.specs.Chunked.{flat, begins_by, IsPlace}
use Rattle.lw_runs.specs.declared.run.Run.{Run}
use Rattle.lw_runs.proofs.Puts.{less}
use Rattle.lw_runs.proofs.Searches.{next_place, at_most, not_most, was_at_most, was_more}
use Rattle.lw_runs.proofs.Places.{place-le}

-- runs in order from a position on are in order from one before it on
pub order_low : {P : Type 0} (seen : P → View) (a b : ℕ) (runs : List (Run P)) → a ≤ b → InOrder seen b runs → InOrder seen a runs
order_low seen a b [] le order = tt
order_low seen a b (r ∷ rs) le order = let low = order.0 in (omega arith, order.1, order.2, order.3)

-- the first of runs in order are in order
pub order_front : {P : Type 0} (seen : P → View) (a : ℕ) (xs ys : List (Run P)) → InOrder seen a (xs ++ ys) → InOrder seen a xs
order_front seen a [] ys order = tt
order_front seen a (x ∷ xs) ys order = (order.0, order.1, order.2, order_front seen x.end xs ys order.3)

-- and the last, from some position on
pub order_back : {P : Type 0} (seen : P → View) (a : ℕ) (xs ys : List (Run P)) → InOrder seen a (xs ++ ys) → (b : ℕ) × (a ≤ b) × InOrder seen b ys
order_back seen a [] ys order = (a, omega arith, order)
order_back seen a (x ∷ xs) ys order =
    let low = order.0 in
    let some = order.1 in
    let rest = order_back seen x.end xs ys order.3 in
    let up = rest.1 in
    (rest.0, omega arith, rest.2)

-- those of one chunk
pub order_chunk : {P : Type 0} (seen : P → View) (a : ℕ) (chunks : List (List (Run P))) (k : ℕ) → InOrder seen a (flat chunks) → InOrder seen 0 (get_or chunks k [])
order_chunk seen a [] k order = tt
order_chunk seen a (c ∷ cs) zero order = order_low seen 0 a c (omega arith) (order_front seen a c (flat cs) order)
order_chunk seen a (c ∷ cs) (suc k) order = let rest = order_back seen a c (flat cs) order in order_chunk seen rest.0 cs k rest.2

first_le : {P : Type 0} (seen : P → View) (a from : ℕ) (xs ys : List (Run P)) → 0 < length xs → InOrder seen a (xs ++ ys) → begins_by from xs ≡ true → a ≤ from
first_le seen a from [] ys some order e = absurd (omega arith)
first_le seen a from (x ∷ xs) ys some order e = let low = order.0 in let at = was_at_most x.at from e in omega arith

later_le : {P V : Type 0} (seen : P → View) (items : V → List (Run P)) (a from : ℕ) (vs : List V) (j : ℕ) (d : V) → All (λ v. 0 < length (items v)) vs → InOrder seen a (flat (map items vs)) → j < length vs → begins_by from (items (get_or vs j d)) ≡ true → a ≤ from
later_le seen items a from [] j d some order more e = absurd (omega arith)
later_le seen items a from (v ∷ vs) zero d some order more e = first_le seen a from (items v) (flat (map items vs)) (All-head (λ v. 0 < length (items v)) v vs some) order e
later_le seen items a from (v ∷ vs) (suc j) d some order more e =
    let rest = order_back seen a (items v) (flat (map items vs)) order in
    let up = rest.1 in
    let le = later_le seen items rest.0 from vs j d (All-tail (λ v. 0 < length (items v)) v vs some) rest.2 (omega arith) e in
    omega arith

first_begins : {P : Type 0} (seen : P → View) (a from : ℕ) (xs ys : List (Run P)) → InOrder seen a (xs ++ ys) → ((b : ℕ) → InOrder seen b ys → b ≤ from) → begins_by from xs ≡ true
first_begins seen a from [] ys order behind = refl
first_begins seen a from (x ∷ xs) ys order behind =
    let some = order.1 in
    let rest = order_back seen x.end xs ys order.3 in
    let up = rest.1 in
    let le = behind rest.0 rest.2 in
    at_most x.at from (omega arith)

-- chunks that begin at a position or before it come first
pub chunks_parted : {P V : Type 0} (seen : P → View) (items : V → List (Run P)) (a from : ℕ) (vs : List V) → All (λ v. 0 < length (items v)) vs → InOrder seen a (flat (map items vs)) → IsPartitionedBy (λ v. begins_by from (items v)) vs
chunks_parted seen items a from [] some order i j d le more e = absurd (omega arith)
chunks_parted seen items a from (v ∷ vs) some order zero zero d le more e = e
chunks_parted seen items a from (v ∷ vs) some order zero (suc j) d le more e =
    first_begins seen a from (items v) (flat (map items vs)) order
    (λ b rest. later_le seen items b from vs j d (All-tail (λ v. 0 < length (items v)) v vs some) rest (omega arith) e)
chunks_parted seen items a from (v ∷ vs) some order (suc i) zero d le more e = absurd (omega arith)
chunks_parted seen items a from (v ∷ vs) some order (suc i) (suc j) d le more e =
    let rest = order_back seen a (items v) (flat (map items vs)) order in
    chunks_parted seen items rest.0 from vs (All-tail (λ v. 0 < length (items v)) v vs some) rest.2 i j d (omega arith) (omega arith) e

place_mapped : {P V : Type 0} (items : V → List (Run P)) (from : ℕ) (vs : List V) → position_or_len (λ c. not (begins_by from c)) (map items vs) ≡ position_or_len (λ v. not (begins_by from (items v))) vs
place_mapped items from [] = refl
place_mapped items from (v ∷ vs) = ap (λ n. cond (not (not (begins_by from (items v)))) (1 + n) 0) (place_mapped items from vs)

-- so where they part is the first that begins behind
pub begun_is : {P V : Type 0} (items : V → List (Run P)) (from i : ℕ) (vs : List V) → i ≤ length vs → IsPartitionPoint (λ v. begins_by from (items v) ≡ true) (λ v. begins_by from (items v) ≡ false) vs i → i ≡ position_or_len (λ c. not (begins_by from c)) (map items vs)
begun_is items from i [] within point = omega arith
begun_is items from i (v ∷ vs) within point =
    sym (place_mapped items from (v ∷ vs)
    ∙ position_or_len_is (λ w. not (begins_by from (items w))) (v ∷ vs) i v within
    (λ k lt. ap not (point.0 k v (omega arith) lt))
    (λ lt. ap not (point.1 i v (omega arith) lt)))

ahead : {P : Type 0} (seen : P → View) (a : ℕ) (xs : List (Run P)) (r : Run P) (ys : List (Run P)) → InOrder seen a (xs ++ r ∷ ys) → a ≤ r.at
ahead seen a [] r ys order = order.0
ahead seen a (x ∷ xs) r ys order = let low = order.0 in let some = order.1 in let rest = ahead seen x.end xs r ys order.3 in omega arith

-- where a run begins at a position or before it, the place of one more is behind all that stand in front of the run
place_behind : {P : Type 0} (seen : P → View) (a from : ℕ) (xs : List (Run P)) (r : Run P) (ys : List (Run P)) → InOrder seen a (xs ++ r ∷ ys) → r.at ≤ from
    → position_or_len (λ s. nat_lt from s.at) (xs ++ r ∷ ys) ≡ length xs + position_or_len (λ s. nat_lt from s.at) (r ∷ ys)
place_behind seen a from [] r ys order le = omega arith
place_behind seen a from (x ∷ xs) r ys order le =
    let some = order.1 in
    let up = ahead seen x.end xs r ys order.3 in
    let next = next_place x (xs ++ r ∷ ys) from (omega arith) in
    let rest = place_behind seen x.end from xs r ys order.3 le in
    omega arith

-- where the first of some begins behind, it is among those in front of them
place_within : {X : Type 0} (p : X → Bool) (xs ys : List X) → position_or_len p ys ≡ 0 → position_or_len p (xs ++ ys) ≡ position_or_len p xs
place_within p [] ys none = none
place_within p (x ∷ xs) ys none = ap (λ n. cond (not (p x)) (1 + n) 0) (place_within p xs ys none)

none_begun : {P : Type 0} (from : ℕ) (chunks : List (List (Run P))) → All (λ c. 0 < length c) chunks → 0 ≡ position_or_len (λ c. not (begins_by from c)) chunks → position_or_len (λ r. nat_lt from r.at) (flat chunks) ≡ 0
none_begun from [] some e = refl
none_begun from ([] ∷ cs) some e = absurd (let h = All-head (λ c. 0 < length c) [] cs some in omega arith)
none_begun from ((r ∷ rs) ∷ cs) some e =
    elim (cases_lt from r.at) [
      | inl lt ↦ rw (less from r.at lt) refl
      | inr le ↦ absurd (let f = rw (at_most r.at from le) at e in omega arith)
    ]

some_begun : {P : Type 0} (seen : P → View) (a from m : ℕ) (c : List (Run P)) (chunks : List (List (Run P))) → All (λ c. 0 < length c) chunks → suc m ≡ position_or_len (λ c. not (begins_by from c)) chunks → InOrder seen a (c ++ flat chunks)
    → position_or_len (λ r. nat_lt from r.at) (c ++ flat chunks) ≡ length c + position_or_len (λ r. nat_lt from r.at) (flat chunks)
some_begun seen a from m c [] some e order = absurd (omega arith)
some_begun seen a from m c ([] ∷ cs) some e order = absurd (let h = All-head (λ c. 0 < length c) [] cs some in omega arith)
some_begun seen a from m c ((r ∷ rs) ∷ cs) some e order =
    elim (cases_lt from r.at) [
      | inl lt ↦ absurd (let more : nat_le r.at from ≡ false = not_most r.at from lt in let f = rw more at e in omega arith)
      | inr le ↦ place_behind seen a from c r (rs ++ flat cs) order le
    ]

first_place : {P : Type 0} (from : ℕ) (c : List (Run P)) → 0 < length c → begins_by from c ≡ false → position_or_len (λ r. nat_lt from r.at) c ≡ 0
first_place from [] some e = absurd (omega arith)
first_place from (r ∷ rs) some e = let h = was_more r.at from e in rw (less from r.at h) refl

later_place : {P : Type 0} (from : ℕ) (c : List (Run P)) → 0 < length c → begins_by from c ≡ true → 0 < position_or_len (λ r. nat_lt from r.at) c
later_place from [] some e = absurd (omega arith)
later_place from (r ∷ rs) some e = let next = next_place r rs from (was_at_most r.at from e) in omega arith

begun_none : (b : Bool) (n : ℕ) → 0 ≡ cond (not (not b)) (1 + n) 0 → b ≡ false
begun_none true n e = absurd (omega arith)
begun_none false n e = refl

begun_some : (b : Bool) (n i : ℕ) → suc i ≡ cond (not (not b)) (1 + n) 0 → (b ≡ true) × (i ≡ n)
begun_some true n i e = (refl, omega arith)
begun_some false n i e = absurd (omega arith)

-- the place in the first chunk where none begins at a position or before it
place_first : {P : Type 0} (from : ℕ) (chunks : List (List (Run P))) → 0 < length chunks → All (λ c. 0 < length c) chunks → 0 ≡ position_or_len (λ c. not (begins_by from c)) chunks
    → IsPlace from chunks 0 (position_or_len (λ r. nat_lt from r.at) (get_or chunks 0 []))
place_first from [] more some e = absurd (omega arith)
place_first from (c ∷ cs) more some e =
    let own = first_place from c (All-head (λ c. 0 < length c) c cs some) (begun_none (begins_by from c) (position_or_len (λ c. not (begins_by from c)) cs) e) in
    let all = none_begun from (c ∷ cs) some e in
    record { chunk_within = omega arith; at_within = omega arith; first = λ z. refl; value = omega arith }

-- and in the last that begins there
place_last : {P : Type 0} (seen : P → View) (a from k : ℕ) (chunks : List (List (Run P))) → All (λ c. 0 < length c) chunks → InOrder seen a (flat chunks) → suc k ≡ position_or_len (λ c. not (begins_by from c)) chunks
    → IsPlace from chunks k (position_or_len (λ r. nat_lt from r.at) (get_or chunks k [])) × (0 < position_or_len (λ r. nat_lt from r.at) (get_or chunks k []))
place_last seen a from k [] some order e = absurd (omega arith)
place_last seen a from zero (c ∷ cs) some order e =
    let has = All-head (λ c. 0 < length c) c cs some in
    let turn = begun_some (begins_by from c) (position_or_len (λ c. not (begins_by from c)) cs) 0 e in
    let none = none_begun from cs (All-tail (λ c. 0 < length c) c cs some) turn.1 in
    let own = later_place from c has turn.0 in
    let all = place_within (λ r. nat_lt from r.at) c (flat cs) none in
    let within = place-le (λ r. nat_lt from r.at) c in
    (record { chunk_within = omega arith; at_within = omega arith; first = λ z. refl; value = omega arith }, own)
place_last seen a from (suc m) (c ∷ cs) some order e =
    let turn = begun_some (begins_by from c) (position_or_len (λ c. not (begins_by from c)) cs) (suc m) e in
    let tails = All-tail (λ c. 0 < length c) c cs some in
    let rest = order_back seen a c (flat cs) order in
    let there = place_last seen rest.0 from m cs tails rest.2 turn.1 in
    let all = some_begun seen a from m c cs tails turn.1 order in
    let own = there.1 in
    let value = there.0.value in
    let within = there.0.chunk_within in
    let size = length-append c (flat (take m cs)) in
    (record { chunk_within = omega arith; at_within = there.0.at_within; first = λ z. absurd (omega arith); value = omega arith }, own)

-- so the place is one of these
place_at : {P : Type 0} (seen : P → View) (from i : ℕ) (chunks : List (List (Run P))) → 0 < length chunks → All (λ c. 0 < length c) chunks → InOrder seen 0 (flat chunks) → i ≡ position_or_len (λ c. not (begins_by from c)) chunks
    → IsPlace from chunks (i - 1) (position_or_len (λ r. nat_lt from r.at) (get_or chunks (i - 1) []))
place_at seen from zero chunks more some order e = place_first from chunks more some e
place_at seen from (suc k) chunks more some order e =
    let z : suc k - 1 ≡ k = omega arith in rw z (place_last seen 0 from k chunks some order e).0

-- a chunk of those that stand in a row
pub chunk_is : {A V : Type 0} (items : V → List A) (vs : List V) (k : ℕ) (v : V) → k < length vs → v ≡ get_or vs k v → get_or (map items vs) k [] ≡ items v
chunk_is items vs k v more is = get_or-map items vs k v [] more ∙ ap items (sym is)

-- the place that a search by halves found
pub place_found : {P V : Type 0} (seen : P → View) (items : V → List (Run P)) (vs : List V) (from i k at : ℕ) (v : V) → 0 < length vs → All (λ v. 0 < length (items v)) vs → InOrder seen 0 (flat (map items vs))
    → i ≤ length vs → IsPartitionPoint (λ v. begins_by from (items v) ≡ true) (λ v. begins_by from (items v) ≡ false) vs i → k ≡ i - 1 → v ≡ get_or vs k v → at ≡ position_or_len (λ r. nat_lt from r.at) (items v)
    → IsPlace from (map items vs) k at
place_found {P} seen items vs from i k at v more some order within point before is place =
    let size = length-map vs items in
    let chunk = chunk_is items vs k v (omega arith) is in
    let found = place_at seen from i (map items vs) (omega arith) (All-map (λ c. 0 < length c) items vs some) order (begun_is items from i vs within point) in
    let e : at ≡ position_or_len (λ r. nat_lt from r.at) (get_or (map items vs) k []) = place ∙ ap (λ c. position_or_len (λ r. nat_lt from r.at) c) (sym chunk) in
    rw (e, before) found

-- its chunk is in order
pub found_order : {P V : Type 0} (seen : P → View) (items : V → List (Run P)) (vs : List V) (k : ℕ) (v : V) → k < length vs → InOrder seen 0 (flat (map items vs)) → v ≡ get_or vs k v → InOrder seen 0 (items v)
found_order {P} seen items vs k v more order is = subst (λ (c : List (Run P)). InOrder seen 0 c) (chunk_is items vs k v more is) (order_chunk seen 0 (map items vs) k order)
