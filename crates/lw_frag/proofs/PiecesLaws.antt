-- What the fragments of a packet are: their ranges join without a gap from 0 to the length of the data, each fits the MTU, and all but the
-- last are full and say that others follow.
use Rattle.std.proofs.Common.{◌≡◌, ◌+◌, ◌-◌, ◌*◌, ◌/◌, ◌%◌, ◌<◌, ◌≤◌, ◌++◌, ◌∷◌, [], zero, suc, true, false, ℕ, List, All, length, take, drop, map, refl, subst, sym, ap, ◌∙◌, length-append, arith}
use Rattle.std.proofs.Math.Seq.{take-add}
use Rattle.std.proofs.Math.Nat.{mul-le-mul_right, zero-div, zero-mod}
use Rattle.std.proofs.lemmas.Grind.{div_ceil_times}
use Rattle.std.proofs.lemmas.List.{drop-drop, take_all}
use Rattle.std.proofs.lemmas.List.Elements.{All-append, All-cons, All-nil}
use Rattle.std.proofs.lemmas.List.FromFn.{length-map-range_with_len}
use Rattle.std.specs.Int.{div_ceil}
use Rattle.std.specs.List.{flat_map, range_with_len}
use Rattle.lw_base.specs.declared.heads.IpHead.{IpHead}
use Rattle.lw_frag.specs.Laws.{IsPieceOf, Join}
use Rattle.lw_frag.specs.Pieces.{Piece, full_count, full_len, full_octets, full_pieces, octets_of, piece, pieces_of}

-- a full fragment carries a multiple of 8
pub full_len-multiple : (mtu : ℕ) → full_len mtu % 8 ≡ 0
full_len-multiple mtu = omega arith

-- it fits the MTU
pub full_len-fits : (mtu : ℕ) → 28 ≤ mtu → 20 + full_len mtu ≤ mtu
full_len-fits mtu big = omega arith

-- no greater multiple of 8 does
pub full_len-greatest : (mtu n : ℕ) → n % 8 ≡ 0 → 20 + n ≤ mtu → n ≤ full_len mtu
full_len-greatest mtu n multiple fits = omega arith

-- it carries something
full_len-some : (mtu : ℕ) → 28 ≤ mtu → 0 < full_len mtu
full_len-some mtu big = omega arith

-- the octets of as few full fragments as leave at most so many
record Rounded (len most octets : ℕ) : Type 0 where
  enough : len ≤ octets + most
  within : octets ≤ len
  left : 0 < len → octets < len

rounded_by : (d len most full : ℕ) → len - most ≡ d → 0 < full → full ≤ most → Rounded len most (div_ceil d full * full)
rounded_by zero len most full is some fits =
    let quotient = zero-div full in
    let rest = zero-mod full in
    let none : div_ceil 0 full * full ≡ 0 = rw (quotient, rest) (omega arith) in
    record { enough = omega arith; within = omega arith; left = λ h. omega arith }
rounded_by (suc d) len most full is some fits =
    let bounds = div_ceil_times (suc d) full some in
    let low = bounds.0 in
    let high = bounds.1 in
    record { enough = omega arith; within = omega arith; left = λ h. omega arith }

-- what the full fragments of a packet carry
full_octets-rounded : (len mtu : ℕ) → 28 ≤ mtu → Rounded len (mtu - 20) (full_octets len mtu)
full_octets-rounded len mtu big =
    rounded_by (len - (mtu - 20)) len (mtu - 20) (full_len mtu) refl (full_len-some mtu big) (omega arith)

-- what is left for the last fits
pub last-fits : (len mtu : ℕ) → 28 ≤ mtu → 20 + (len - full_octets len mtu) ≤ mtu
last-fits len mtu big = let r = (full_octets-rounded len mtu big).enough in omega arith

-- full fragments join, and others may follow
join_full : (h : IpHead) (len end i n : ℕ) (rest : List Piece) → Join ((i + n) * len) end rest
    → Join (i * len) end (map (λ k. piece h (k * len) len true) (range_with_len i n) ++ rest)
join_full h len end i zero rest last = let same : i + 0 ≡ i = omega arith in rw same at last
join_full h len end i (suc n) rest last =
    let next : i * len + len ≡ (i + 1) * len = omega arith in
    let same : i + suc n ≡ (i + 1) + n = omega arith in
    let later = join_full h len end (i + 1) n rest (rw same at last) in
    (refl, subst (λ (from : ℕ). Join from end (map (λ k. piece h (k * len) len true) (range_with_len (i + 1) n) ++ rest)) (sym next) later)

-- full fragments, and one with what is left
join_all : (h : IpHead) (n full len : ℕ) → n * full ≤ len
    → Join 0 len (full_pieces h n full ++ piece h (n * full) (len - n * full) false ∷ [])
join_all h n full len within =
    let rest : List Piece = piece h (n * full) (len - n * full) false ∷ [] in
    let same : n * full ≡ (0 + n) * full = omega arith in
    let none : 0 * full ≡ 0 = omega arith in
    let whole : n * full + (len - n * full) ≡ len = omega arith in
    subst (λ (from : ℕ). Join from len (full_pieces h n full ++ rest)) none (join_full h full len 0 n rest (same, whole))

-- the fragments of a packet join from 0 to the end of its data
pub pieces-join : (h : IpHead) (len mtu : ℕ) → 28 ≤ mtu → Join 0 len (pieces_of h len mtu)
pieces-join h len mtu big = join_all h (full_count len mtu) (full_len mtu) len (full_octets-rounded len mtu big).within

-- what fragments that join carry
join-spell : (body : List ℕ) (from end : ℕ) (ps : List Piece) → Join from end ps → end ≤ length body
    → (from ≤ end) × (flat_map (octets_of body) ps ≡ take (end - from) (drop from body))
join-spell body from end [] done within = let none : end - from ≡ 0 = omega arith in (omega arith, rw none refl)
join-spell body from end (p ∷ ps) joins within =
    let begins : p.1 ≡ from = joins.0 in
    let later = join-spell body (p.1 + p.2) end ps joins.1 within in
    let ends = later.0 in
    let split : end - from ≡ p.2 + (end - (p.1 + p.2)) = omega arith in
    let behind : drop p.2 (drop from body) ≡ drop (p.1 + p.2) body = drop-drop p.2 from body ∙ ap (λ (n : ℕ). drop (n + p.2) body) (sym begins) in
    let parts = take-add p.2 (end - (p.1 + p.2)) (drop from body) in
    (omega arith, rw (split, parts, behind, later.1, begins) refl)

-- the fragments spell the data of the packet: their octets, one behind the other, are all of it
pub pieces-spell : (h : IpHead) (body : List ℕ) (mtu : ℕ) → 28 ≤ mtu
    → flat_map (octets_of body) (pieces_of h (length body) mtu) ≡ body
pieces-spell h body mtu big =
    (join-spell body 0 (length body) (pieces_of h (length body) mtu) (pieces-join h (length body) mtu big) (omega arith)).1
    ∙ take_all (length body - 0) body (omega arith)

-- what holds of the fragment at each place holds of all
all_full : (P : Piece → Type 0) (f : ℕ → Piece) (a n : ℕ) → ((k : ℕ) → k < a + n → P (f k)) → All P (map f (range_with_len a n))
all_full P f a zero each = All-nil P
all_full P f a (suc n) each =
    All-cons P (f a) (map f (range_with_len (a + 1) n)) (each a (omega arith)) (all_full P f (a + 1) n (λ k below. each k (omega arith)))

-- full fragments begin at multiples of 8
full-place : (k mtu : ℕ) → (k * full_len mtu) % 8 ≡ 0
full-place k mtu =
    let eights : k * full_len mtu ≡ k * ((mtu - 20) / 8) * 8 = omega arith in
    rw eights (omega arith)

-- with as many octets as there are
each_of : (h : IpHead) (len mtu count : ℕ) → 28 ≤ mtu → Rounded len (mtu - 20) (count * full_len mtu)
    → All (IsPieceOf h len mtu) (full_pieces h count (full_len mtu) ++ piece h (count * full_len mtu) (len - count * full_len mtu) false ∷ [])
each_of h len mtu count big rounded =
    let full : ℕ = full_len mtu in
    let some = full_len-some mtu big in
    let fits = full_len-fits mtu big in
    let enough = rounded.enough in
    let within = rounded.within in
    All-append (IsPieceOf h len mtu) (full_pieces h count full) (piece h (count * full) (len - count * full) false ∷ [])
    (all_full (IsPieceOf h len mtu) (λ k. piece h (k * full) full true) 0 count (λ k below.
    let next : (k + 1) * full ≤ count * full = mul-le-mul_right full (omega arith) in
    let is : (k + 1) * full ≡ k * full + full = omega arith in
    record { head = refl; fits = fits; place = full-place k mtu; within = omega arith; some = λ h. some }))
    (All-cons (IsPieceOf h len mtu) (piece h (count * full) (len - count * full) false) []
    (record { head = refl; fits = omega arith; place = full-place count mtu; within = omega arith; some = λ h. let left = rounded.left h in omega arith })
    (All-nil (IsPieceOf h len mtu)))

-- what each fragment of a packet is
pub pieces-each : (h : IpHead) (len mtu : ℕ) → 28 ≤ mtu → All (IsPieceOf h len mtu) (pieces_of h len mtu)
pieces-each h len mtu big = each_of h len mtu (full_count len mtu) big (full_octets-rounded len mtu big)

-- the full fragments say that others follow, and are full
pub full_pieces-each : (h : IpHead) (count len : ℕ) → All (λ (p : Piece). (p.0.mf ≡ true) × (p.2 ≡ len)) (full_pieces h count len)
full_pieces-each h count len =
    all_full (λ (p : Piece). (p.0.mf ≡ true) × (p.2 ≡ len)) (λ k. piece h (k * len) len true) 0 count (λ k below. (refl, refl))

-- how many fragments there are
pub length-pieces_of : (h : IpHead) (len mtu : ℕ) → length (pieces_of h len mtu) ≡ full_count len mtu + 1
length-pieces_of h len mtu =
    let full : ℕ = full_len mtu in
    let count : ℕ = full_count len mtu in
    length-append (full_pieces h count full) (piece h (full_octets len mtu) (len - full_octets len mtu) false ∷ [])
    ∙ ap (λ (n : ℕ). n + 1) (length-map-range_with_len (λ (k : ℕ). piece h (k * full) full true) 0 count)

-- full fragments, none at all, and what is left
none_full : (h : IpHead) (len full count : ℕ) → count ≡ 0
    → full_pieces h count full ++ piece h (count * full) (len - count * full) false ∷ [] ≡ piece h 0 len false ∷ []
none_full h len full count none =
    let nothing : 0 * full ≡ 0 = omega arith in
    let all : len - 0 ≡ len = omega arith in
    rw (none, nothing, all) refl

-- a packet that fits is one fragment, also where it has no data
pub one_piece : (h : IpHead) (len mtu : ℕ) → 20 + len ≤ mtu → pieces_of h len mtu ≡ piece h 0 len false ∷ []
one_piece h len mtu fits =
    let nothing : len - (mtu - 20) ≡ 0 = omega arith in
    let quotient = zero-div (full_len mtu) in
    let rest = zero-mod (full_len mtu) in
    let none : full_count len mtu ≡ 0 = rw (nothing, quotient, rest) refl in
    none_full h len (full_len mtu) (full_count len mtu) none
