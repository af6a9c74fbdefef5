-- Pbufs of spans one behind another.
use Rattle.std.proofs.Common.{◌≡◌, ℕ, zero, suc, ◌+◌, ◌-◌, ◌^◌, ◌<◌, ◌≤◌, Bool, true, false, ◌&&◌, min, List, [], ◌∷◌, ◌++◌, length, take, drop, get_or, All, refl, sym, ap, ◌∙◌, arith, length-append, append-nil, append_assoc}
use Rattle.std.proofs.lemmas.Grind.{flat_map-append}
use Rattle.std.proofs.lemmas.List.{take_more, drop_more}
use Rattle.std.proofs.lemmas.List.Sums.{sum_by-append}
use Rattle.std.proofs.lemmas.List.Elements.{All-nil, All-cons, All-head, All-tail, All-append}
use Rattle.atomic_table.specs.Seated.{TableId}
use Rattle.lw_payload.specs.Views.{Slot}
use Rattle.pbuf_seats.specs.Owners.{row_of, weight_of}
use Rattle.pbuf_spans.specs.Parts.{Part, joined, rows_in, weight_in, least_adds, all_own, IsUnder, IsChain}
use Rattle.lw_pbuf.specs.Chains.{all_parts, NoneEmpty}
use Rattle.lw_pbuf.proofs.Joined.{length-joined-append}

-- Two lists of pbufs

pub rows_in-append : (xs ys : List Part) (s : Slot) → rows_in (xs ++ ys) s ≡ rows_in xs s + rows_in ys s
rows_in-append xs ys s = sum_by-append (λ (p : Part). row_of p.owner s) xs ys

pub weight_in-append : (xs ys : List Part) → weight_in (xs ++ ys) ≡ weight_in xs + weight_in ys
weight_in-append xs ys = sum_by-append (λ (p : Part). weight_of p.owner) xs ys

least_adds-most : (ps : List Part) → least_adds ps ≤ 65534
least_adds-most [] = omega arith
least_adds-most (p ∷ ps) = let r = least_adds-most ps in omega arith

pub least_adds-append : (xs ys : List Part) → least_adds (xs ++ ys) ≡ min (least_adds xs) (least_adds ys)
least_adds-append [] ys = let m = least_adds-most ys in omega arith
least_adds-append (x ∷ xs) ys = let r = least_adds-append xs ys in omega arith

and_assoc : (a b c : Bool) → (a && (b && c)) ≡ ((a && b) && c)
and_assoc true b c = refl
and_assoc false b c = refl

pub all_own-append : (xs ys : List Part) → all_own (xs ++ ys) ≡ (all_own xs && all_own ys)
all_own-append [] ys = refl
all_own-append (x ∷ xs) ys = ap (λ (b : Bool). x.own && b) (all_own-append xs ys) ∙ and_assoc x.own (all_own xs) (all_own ys)

both_true : (a b : Bool) → (a && b) ≡ true → (a ≡ true) × (b ≡ true)
both_true true b e = (refl, e)
both_true false b e = absurd (let a = e in cc)

pub all_own-split : (xs ys : List Part) → all_own (xs ++ ys) ≡ true → (all_own xs ≡ true) × (all_own ys ≡ true)
all_own-split xs ys own = both_true (all_own xs) (all_own ys) (sym (all_own-append xs ys) ∙ own)

pub all_own-both : (xs ys : List Part) → all_own xs ≡ true → all_own ys ≡ true → all_own (xs ++ ys) ≡ true
all_own-both xs ys a b = all_own-append xs ys ∙ (ap (λ (x : Bool). x && all_own ys) a ∙ b)

pub All-split : {X : Type 0} (P : X → Type 0) (xs ys : List X) → All P (xs ++ ys) → All P xs × All P ys
All-split P [] ys all = (All-nil P, all)
All-split P (x ∷ xs) ys all = let r = All-split P xs ys (All-tail P x (xs ++ ys) all) in (All-cons P x xs (All-head P x (xs ++ ys) all) r.0, r.1)

pub chain-both : (t : TableId) (xs ys : List Part) → IsChain t xs → IsChain t ys → length (joined xs) + length (joined ys) < 2 ^ 32 → IsChain t (xs ++ ys)
chain-both t xs ys a b short = record {
  under = All-append (λ (p : Part). IsUnder t p.owner) xs ys a.under b.under;
  some = All-append (λ (p : Part). 0 < length p.octets) xs ys a.some b.some;
  short = let l = length-joined-append xs ys in omega arith;
}

pub chain-front : (t : TableId) (xs ys : List Part) → IsChain t (xs ++ ys) → IsChain t xs
chain-front t xs ys c = record {
  under = (All-split (λ (p : Part). IsUnder t p.owner) xs ys c.under).0;
  some = (All-split (λ (p : Part). 0 < length p.octets) xs ys c.some).0;
  short = let l = length-joined-append xs ys in let s = c.short in omega arith;
}

pub chain-back : (t : TableId) (xs ys : List Part) → IsChain t (xs ++ ys) → IsChain t ys
chain-back t xs ys c = record {
  under = (All-split (λ (p : Part). IsUnder t p.owner) xs ys c.under).1;
  some = (All-split (λ (p : Part). 0 < length p.octets) xs ys c.some).1;
  short = let l = length-joined-append xs ys in let s = c.short in omega arith;
}

-- The pbufs of spans

pub all_parts-append : (xs ys : List (List Part)) → all_parts (xs ++ ys) ≡ all_parts xs ++ all_parts ys
all_parts-append xs ys = flat_map-append (λ (s : List Part). s) xs ys

pub all_parts-one : (ps : List Part) → all_parts (ps ∷ []) ≡ ps
all_parts-one ps = append-nil ps

pub all_parts-push : (spans : List (List Part)) (ps : List Part) → all_parts (spans ++ ps ∷ []) ≡ all_parts spans ++ ps
all_parts-push spans ps = all_parts-append spans (ps ∷ []) ∙ ap (λ (l : List Part). all_parts spans ++ l) (all_parts-one ps)

-- those from the i-th span on are its own and those behind it
pub all_parts-here : (spans : List (List Part)) (i : ℕ) (ps : List Part) → i < length spans → ps ≡ get_or spans i ps → all_parts (drop i spans) ≡ ps ++ all_parts (drop (i + 1) spans)
all_parts-here spans i ps inside is = ap (λ (l : List (List Part)). all_parts l) (drop_more spans i ps inside ∙ ap (λ (q : List Part). q ∷ drop (i + 1) spans) (sym is))

-- those of the first spans, with one span more
pub all_parts-more : (spans : List (List Part)) (i : ℕ) (ps : List Part) → i < length spans → ps ≡ get_or spans i ps → all_parts (take (i + 1) spans) ≡ all_parts (take i spans) ++ ps
all_parts-more spans i ps inside is = ap (λ (l : List (List Part)). all_parts l) (take_more spans i ps inside) ∙ (all_parts-push (take i spans) (get_or spans i ps) ∙ ap (λ (q : List Part). all_parts (take i spans) ++ q) (sym is))

-- there are no more spans than pbufs, where each has one
pub few_spans : (spans : List (List Part)) → NoneEmpty spans → length spans ≤ length (all_parts spans)
few_spans [] full = omega arith
few_spans (ps ∷ spans) full =
    let one : 0 < length ps = All-head (λ (q : List Part). 0 < length q) ps spans full in
    let rest = few_spans spans (All-tail (λ (q : List Part). 0 < length q) ps spans full) in
    let both = length-append ps (all_parts spans) in
    omega arith

-- the first n of two lists are left out
pub drop-both : {X : Type 0} (n : ℕ) (xs ys : List X) → drop n (xs ++ ys) ≡ drop n xs ++ drop (n - length xs) ys
drop-both zero [] ys = refl
drop-both (suc n) [] ys = ap (λ (k : ℕ). drop k ys) (let e : suc n ≡ suc n - 0 = omega arith in e)
drop-both zero (x ∷ xs) ys = ap (λ (k : ℕ). (x ∷ xs) ++ drop k ys) (let e : 0 ≡ 0 - suc (length xs) = omega arith in e)
drop-both (suc n) (x ∷ xs) ys = drop-both n xs ys ∙ ap (λ (k : ℕ). drop n xs ++ drop k ys) (let e : n - length xs ≡ suc n - suc (length xs) = omega arith in e)

-- what holds of all pbufs holds of those of each span
pub All-spans : (P : Part → Type 0) (spans : List (List Part)) → All P (all_parts spans) → All (λ ps. All P ps) spans
All-spans P [] all = All-nil (λ (ps : List Part). All P ps)
All-spans P (ps ∷ spans) all = let r = All-split P ps (all_parts spans) all in All-cons (λ (qs : List Part). All P qs) ps spans r.0 (All-spans P spans r.1)

pub All-all_parts : (P : Part → Type 0) (spans : List (List Part)) → All (λ ps. All P ps) spans → All P (all_parts spans)
All-all_parts P [] all = All-nil P
All-all_parts P (ps ∷ spans) all = All-append P ps (all_parts spans) (All-head (λ (qs : List Part). All P qs) ps spans all) (All-all_parts P spans (All-tail (λ (qs : List Part). All P qs) ps spans all))
