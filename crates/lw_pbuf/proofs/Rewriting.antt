-- Octets that are written over those of spans.
use Rattle.std.proofs.Common.{◌≡◌, ℕ, ◌+◌, ◌<◌, ◌≤◌, true, ◌&&◌, min, List, [], ◌∷◌, ◌++◌, length, set, take, drop, get_or, All, refl, sym, ap, ◌∙◌, subst, arith, length-append, append_assoc, append-nil, length-set}
use Rattle.std.specs.List.{refill}
use Rattle.std.proofs.lemmas.List.{drop_more, drop-drop, take_more_set, drop-set-lt, take_all, drop_all, get_or-drop, nil_from_length}
use Rattle.std.proofs.lemmas.List.Elements.{All-nil, All-cons, All-head, All-tail, All-push, All-get_or}
use Rattle.atomic_table.specs.Seated.{TableId}
use Rattle.lw_payload.specs.Views.{Slot}
use Rattle.pbuf_seats.specs.declared.owner.Owner.{Owner}
use Rattle.pbuf_seats.specs.Owners.{row_of, weight_of, adds_of}
use Rattle.pbuf_seats.specs.Seats.{SeatSeen}
use Rattle.pbuf_spans.specs.Parts.{Part, joined, rows_in, weight_in, least_adds, all_own, IsUnder, IsChain}
use Rattle.pbuf_spans.specs.Cuts.{IsCutTo, IsRewritten}
use Rattle.lw_pbuf.specs.Chains.{all_parts, NoneEmpty}
use Rattle.pbuf_spans.proofs.Lists.{rows_in-cons, weight_in-cons, joined-append}
use Rattle.lw_pbuf.proofs.Joined.{length-joined-append}
use Rattle.lw_pbuf.proofs.Spans.{all_own-split, all_parts-push, all_parts-more}

-- what is left of a list from a place on
pub behind_is : {X : Type 0} (ps : List X) (i : ℕ) (p : X) → i < length ps → p ≡ get_or ps i p → drop i ps ≡ p ∷ drop (i + 1) ps
behind_is {X} ps i p inside is = drop_more ps i p inside ∙ ap (λ (q : X). q ∷ drop (i + 1) ps) (sym is)

-- the same pbufs are as many
rewritten_count : (ps qs : List Part) → IsRewritten ps qs → length qs ≡ length ps
rewritten_count [] [] same = refl
rewritten_count [] (y ∷ ys) same = absurd same
rewritten_count (x ∷ xs) [] same = absurd same
rewritten_count (x ∷ xs) (y ∷ ys) same = let r = rewritten_count xs ys same.3 in omega arith

pub rewritten-append : (ps qs rs ss : List Part) → IsRewritten ps qs → IsRewritten rs ss → IsRewritten (ps ++ rs) (qs ++ ss)
rewritten-append [] [] rs ss a b = b
rewritten-append [] (y ∷ ys) rs ss a b = absurd a
rewritten-append (x ∷ xs) [] rs ss a b = absurd a
rewritten-append (x ∷ xs) (y ∷ ys) rs ss a b = (a.0, a.1, a.2, rewritten-append xs ys rs ss a.3 b)

-- of the octets the rest is still to be written over the spans from the i-th on; ps are now qs
pub record Writes (ps qs : List (List Part)) (i : ℕ) (octets rest : List ℕ) : Type 0 where
  pub written : joined (all_parts (take i qs)) ++ rest ≡ octets
  pub fits : length rest ≡ length (joined (all_parts (drop i ps)))
  pub behind : drop i qs ≡ drop i ps
  pub own : all_own (all_parts (drop i ps)) ≡ true
  pub same : IsRewritten (all_parts (take i ps)) (all_parts (take i qs))
  pub full : NoneEmpty ps → NoneEmpty (take i qs)
  pub count : length qs ≡ length ps

pub writes_first : (ps : List (List Part)) (octets : List ℕ) → all_own (all_parts ps) ≡ true → length octets ≡ length (joined (all_parts ps)) → Writes ps ps 0 octets octets
writes_first ps octets own fits = record { written = refl; fits = fits; behind = refl; own = own; same = tt; full = λ _. All-nil (λ (l : List Part). 0 < length l); count = refl }

module _ (ps qs : List (List Part)) (i : ℕ) (octets rest : List ℕ) (p : List Part) (w : Writes ps qs i octets rest) (inside : i < length qs) (is : p ≡ get_or qs i p) where
  here : drop i ps ≡ p ∷ drop (i + 1) qs
  here = sym w.behind ∙ behind_is qs i p inside is

  after : drop (i + 1) ps ≡ drop (i + 1) qs
  after = sym (drop-drop 1 i ps) ∙ (ap (drop 1) here)

  parts : all_parts (drop i ps) ≡ p ++ all_parts (drop (i + 1) qs)
  parts = ap (λ (l : List (List Part)). all_parts l) here

  later : all_parts (drop (i + 1) ps) ≡ all_parts (drop (i + 1) qs)
  later = ap (λ (l : List (List Part)). all_parts l) after

  pub writes_enough : length (joined p) ≤ length rest
  writes_enough = let f = w.fits in let e = ap (λ (l : List Part). length (joined l)) parts in let a = length-joined-append p (all_parts (drop (i + 1) qs)) in omega arith

  both_own : (all_own p ≡ true) × (all_own (all_parts (drop (i + 1) qs)) ≡ true)
  both_own = all_own-split p (all_parts (drop (i + 1) qs)) (subst (λ (l : List Part). all_own l ≡ true) parts w.own)

  pub writes_own : all_own p ≡ true
  writes_own = both_own.0

  at_ps : p ≡ get_or ps i p
  at_ps = sym (let e = get_or-drop i ps 0 p in let f = ap (λ (l : List (List Part)). get_or l 0 p) here in ap (λ (k : ℕ). get_or ps k p) (let z : i ≡ i + 0 = omega arith in z) ∙ (sym e ∙ f))

  pub writes_next : (rs : List (List Part)) (q : List Part) (front back : List ℕ) → joined q ≡ front → IsRewritten p q → rs ≡ set qs i q → front ++ back ≡ rest → length front ≡ length (joined p) → Writes ps rs (i + 1) octets back
  writes_next rs q front back new rewritten now cut long = subst (λ (l : List (List Part)). Writes ps l (i + 1) octets back) (sym now) record {
    written = ap (λ (l : List Part). joined l ++ back) more ∙ (ap (λ (l : List ℕ). l ++ back) (joined-append (all_parts (take i qs)) q ∙ ap (λ (l : List ℕ). joined (all_parts (take i qs)) ++ l) new)
        ∙ (append_assoc (joined (all_parts (take i qs))) front back ∙ (ap (λ (l : List ℕ). joined (all_parts (take i qs)) ++ l) cut ∙ w.written)));
    fits = let f = w.fits in let e = ap (λ (l : List Part). length (joined l)) parts in let a = length-joined-append p (all_parts (drop (i + 1) qs)) in let b = ap length cut in let d = length-append front back in let g = ap (λ (l : List Part). length (joined l)) later in omega arith;
    behind = drop-set-lt (i + 1) qs i q (omega arith) ∙ sym after;
    own = subst (λ (l : List Part). all_own l ≡ true) (sym later) both_own.1;
    same = subst (λ (l : List Part). IsRewritten l (all_parts (take (i + 1) (set qs i q)))) (sym (all_parts-more ps i p (let n = w.count in omega arith) at_ps))
        (subst (λ (l : List Part). IsRewritten (all_parts (take i ps) ++ p) l) (sym more) (rewritten-append (all_parts (take i ps)) (all_parts (take i qs)) p q w.same rewritten));
    full = λ each. subst (λ (l : List (List Part)). NoneEmpty l) (sym (take_more_set qs i q inside)) (All-push (λ (l : List Part). 0 < length l) (take i qs) q (w.full each)
        (let n = rewritten_count p q rewritten in let one : 0 < length p = All-same_at each in omega arith));
    count = length-set qs i q ∙ w.count;
  }
    where
      more : all_parts (take (i + 1) (set qs i q)) ≡ all_parts (take i qs) ++ q
      more = ap (λ (l : List (List Part)). all_parts l) (take_more_set qs i q inside) ∙ all_parts-push (take i qs) q

      All-same_at : NoneEmpty ps → 0 < length p
      All-same_at each = subst (λ (l : List Part). 0 < length l) (sym at_ps) (All-get_or (λ (l : List Part). 0 < length l) ps i p (let n = w.count in omega arith) each)

pub writes_last : (ps qs : List (List Part)) (i : ℕ) (octets rest : List ℕ) → Writes ps qs i octets rest → length qs ≤ i → (joined (all_parts qs) ≡ octets) × IsRewritten (all_parts ps) (all_parts qs) × (NoneEmpty ps → NoneEmpty qs)
writes_last ps qs i octets rest w past =
    let n = w.count in
    let whole : take i qs ≡ qs = take_all i qs past in
    let whole_ps : take i ps ≡ ps = take_all i ps (omega arith) in
    let none : length rest ≡ 0 = let f = w.fits in let e = ap (λ (l : List (List Part)). length (joined (all_parts l))) (drop_all i ps (omega arith)) in omega arith in (
      sym (append-nil (joined (all_parts qs))) ∙ (ap (λ (l : List ℕ). joined (all_parts qs) ++ l) (sym (nil_from_length rest none)) ∙ (ap (λ (l : List (List Part)). joined (all_parts l) ++ rest) (sym whole) ∙ w.written)),
      subst (λ (l : List (List Part)). IsRewritten (all_parts l) (all_parts qs)) whole_ps (subst (λ (l : List (List Part)). IsRewritten (all_parts (take i ps)) (all_parts l)) whole w.same),
      λ each. subst (λ (l : List (List Part)). NoneEmpty l) whole (w.full each),
    )

-- the same pbufs have the same owners
pub rewritten_rows : (ps qs : List Part) → IsRewritten ps qs → (s : Slot) → rows_in qs s ≡ rows_in ps s
rewritten_rows [] [] same s = refl
rewritten_rows [] (y ∷ ys) same s = absurd same
rewritten_rows (x ∷ xs) [] same s = absurd same
rewritten_rows (x ∷ xs) (y ∷ ys) same s = let a = rows_in-cons x xs s in let b = rows_in-cons y ys s in let e = ap (λ (o : Owner). row_of o s) same.0 in let r = rewritten_rows xs ys same.3 s in omega arith

rewritten_weight : (ps qs : List Part) → IsRewritten ps qs → weight_in qs ≡ weight_in ps
rewritten_weight [] [] same = refl
rewritten_weight [] (y ∷ ys) same = absurd same
rewritten_weight (x ∷ xs) [] same = absurd same
rewritten_weight (x ∷ xs) (y ∷ ys) same = let a = weight_in-cons x xs in let b = weight_in-cons y ys in let e = ap weight_of same.0 in let r = rewritten_weight xs ys same.3 in omega arith

rewritten_adds : (ps qs : List Part) → IsRewritten ps qs → least_adds qs ≡ least_adds ps
rewritten_adds [] [] same = refl
rewritten_adds [] (y ∷ ys) same = absurd same
rewritten_adds (x ∷ xs) [] same = absurd same
rewritten_adds (x ∷ xs) (y ∷ ys) same = λ i. min (adds_of (same.0 i)) (rewritten_adds xs ys same.3 i)

rewritten_own : (ps qs : List Part) → IsRewritten ps qs → all_own qs ≡ all_own ps
rewritten_own [] [] same = refl
rewritten_own [] (y ∷ ys) same = absurd same
rewritten_own (x ∷ xs) [] same = absurd same
rewritten_own (x ∷ xs) (y ∷ ys) same = λ i. same.1 i && rewritten_own xs ys same.3 i

rewritten_length : (ps qs : List Part) → IsRewritten ps qs → length (joined qs) ≡ length (joined ps)
rewritten_length [] [] same = refl
rewritten_length [] (y ∷ ys) same = absurd same
rewritten_length (x ∷ xs) [] same = absurd same
rewritten_length (x ∷ xs) (y ∷ ys) same = let r = rewritten_length xs ys same.3 in let l = same.2 in let a = length-append x.octets (joined xs) in let b = length-append y.octets (joined ys) in omega arith

rewritten_under : (t : TableId) (ps qs : List Part) → IsRewritten ps qs → All (λ p. IsUnder t p.owner) ps → All (λ p. IsUnder t p.owner) qs
rewritten_under t [] [] same all = all
rewritten_under t [] (y ∷ ys) same all = absurd same
rewritten_under t (x ∷ xs) [] same all = absurd same
rewritten_under t (x ∷ xs) (y ∷ ys) same all = All-cons (λ (p : Part). IsUnder t p.owner) y ys (subst (λ (o : Owner). IsUnder t o) (sym same.0) (All-head (λ (p : Part). IsUnder t p.owner) x xs all)) (rewritten_under t xs ys same.3 (All-tail (λ (p : Part). IsUnder t p.owner) x xs all))

pub rewritten_some : (ps qs : List Part) → IsRewritten ps qs → All (λ p. 0 < length p.octets) ps → All (λ p. 0 < length p.octets) qs
rewritten_some [] [] same all = all
rewritten_some [] (y ∷ ys) same all = absurd same
rewritten_some (x ∷ xs) [] same all = absurd same
rewritten_some (x ∷ xs) (y ∷ ys) same all = All-cons (λ (p : Part). 0 < length p.octets) y ys (let l = same.2 in let s = All-head (λ (p : Part). 0 < length p.octets) x xs all in omega arith) (rewritten_some xs ys same.3 (All-tail (λ (p : Part). 0 < length p.octets) x xs all))

-- and as a slice that is written back they are the whole list
pub refilled : (n : ℕ) (ps qs : List (List Part)) → n ≡ length ps → length qs ≡ length ps → refill n ps qs ≡ qs
refilled n ps qs all same =
    ap (λ (l : List (List Part)). take n (qs ++ l)) (drop_all (length qs) ps (omega arith)) ∙ (ap (take n) (append-nil qs) ∙ take_all n qs (omega arith))

pub refilled_same : (ps qs : List (List Part)) → qs ≡ ps → refill (length ps) ps qs ≡ ps
refilled_same ps qs same = refilled (length ps) ps qs refl (ap (λ (l : List (List Part)). length l) same) ∙ same

-- so are spans of which the first is another now
pub set_back : (ss lent : List (List Part)) (q : List Part) → lent ≡ ss → refill (length ss) ss (set lent 0 q) ≡ set ss 0 q
set_back ss lent q same =
    refilled (length ss) ss (set lent 0 q) refl (length-set lent 0 q ∙ ap (λ (l : List (List Part)). length l) same)
    ∙ ap (λ (l : List (List Part)). set l 0 q) same

-- and spans whose octets were written over
pub rewritten_back : (ss lent ts : List (List Part)) → lent ≡ ss → length ts ≡ length lent → IsRewritten (all_parts lent) (all_parts ts) → (refill (length ss) ss ts ≡ ts) × IsRewritten (all_parts ss) (all_parts ts)
rewritten_back ss lent ts is count same = (
  refilled (length ss) ss ts refl (count ∙ ap (λ (l : List (List Part)). length l) is),
  subst (λ (l : List (List Part)). IsRewritten (all_parts l) (all_parts ts)) is same,
)

-- a chain that was written over is one
pub rewritten_chain : (t : TableId) (ps qs : List Part) → IsRewritten ps qs → IsChain t ps → IsChain t qs
rewritten_chain t ps qs same chain = record { under = rewritten_under t ps qs same chain.under; some = rewritten_some ps qs same chain.some; short = let s = chain.short in let l = rewritten_length ps qs same in omega arith }

-- and what a cut left of it before is left of it
pub rewritten_cut : (h k : SeatSeen) (ps qs rs : List Part) → IsCutTo h k ps qs → IsRewritten qs rs → IsCutTo h k ps rs
rewritten_cut h k ps qs rs cut same = record {
  rows = λ s. let r = cut.rows s in let e = rewritten_rows qs rs same s in omega arith;
  fewer = λ s. let r = cut.fewer s in let e = rewritten_rows qs rs same s in omega arith;
  weight = let r = cut.weight in let e = rewritten_weight qs rs same in omega arith;
  parts = let r = cut.parts in let e = rewritten_count qs rs same in omega arith;
  adds = let r = cut.adds in let e = rewritten_adds qs rs same in omega arith;
  own = λ o. rewritten_own qs rs same ∙ cut.own o;
  same = cut.same;
}
