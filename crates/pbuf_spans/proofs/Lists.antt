-- Sums and least numbers over parts, and their octets one behind another.
use Rattle.std.proofs.Common.{◌≡◌, ℕ, ◌+◌, ◌≤◌, Bool, true, false, ◌&&◌, min, List, [], ◌∷◌, ◌++◌, refl, sym, ap, ◌∙◌, arith, append_assoc, append-nil}
use Rattle.std.proofs.lemmas.List.Sums.{sum_by-cons, sum_by_push}
use Rattle.lw_payload.specs.Views.{Slot}
use Rattle.pbuf_seats.specs.declared.owner.Owner.{Owner}
use Rattle.pbuf_seats.specs.Owners.{row_of, weight_of, adds_of}
use Rattle.pbuf_spans.specs.Parts.{Part, joined, rows_in, weight_in, least_adds, all_own}

-- the least of the adds in front is no smaller
pub least_adds-front : (xs ys : List Part) → least_adds (xs ++ ys) ≤ least_adds xs
least_adds-front [] [] = omega arith
least_adds-front [] (y ∷ ys) = let r = least_adds-front [] ys in omega arith
least_adds-front (x ∷ xs) ys = let r = least_adds-front xs ys in omega arith

-- of two tests that both pass the first passes, and what follows from the second
and_front : (b c d : Bool) → (b && c) ≡ true → (c ≡ true → d ≡ true) → (b && d) ≡ true
and_front true c d both more = more both
and_front false c d both more = both

and_tail : (b c : Bool) → (b && c) ≡ true → c ≡ true
and_tail true c both = both
and_tail false c both = cc

pub all_own-front : (xs ys : List Part) → all_own (xs ++ ys) ≡ true → all_own xs ≡ true
all_own-front [] ys own = refl
all_own-front (x ∷ xs) ys own = and_front x.own (all_own (xs ++ ys)) (all_own xs) own (λ o. all_own-front xs ys o)

pub all_own-tail : (p : Part) (ps : List Part) → all_own (p ∷ ps) ≡ true → all_own ps ≡ true
all_own-tail p ps own = and_tail p.own (all_own ps) own

pub rows_in-cons : (p : Part) (ps : List Part) (s : Slot) → rows_in (p ∷ ps) s ≡ row_of p.owner s + rows_in ps s
rows_in-cons p ps s = sum_by-cons (λ (q : Part). row_of q.owner s) p ps

pub weight_in-cons : (p : Part) (ps : List Part) → weight_in (p ∷ ps) ≡ weight_of p.owner + weight_in ps
weight_in-cons p ps = sum_by-cons (λ (q : Part). weight_of q.owner) p ps

pub rows_in-push : (ps : List Part) (p : Part) (s : Slot) → rows_in (ps ++ p ∷ []) s ≡ rows_in ps s + row_of p.owner s
rows_in-push ps p s = sum_by_push (λ (q : Part). row_of q.owner s) ps p

pub weight_in-push : (ps : List Part) (p : Part) → weight_in (ps ++ p ∷ []) ≡ weight_in ps + weight_of p.owner
weight_in-push ps p = sum_by_push (λ (q : Part). weight_of q.owner) ps p

-- the same owner at the end
pub least_adds-push : (xs : List Part) (p q : Part) → q.owner ≡ p.owner → least_adds (xs ++ q ∷ []) ≡ least_adds (xs ++ p ∷ [])
least_adds-push [] p q same = ap (λ (o : Owner). min (adds_of o) 65534) same
least_adds-push (x ∷ xs) p q same = ap (λ (n : ℕ). min (adds_of x.owner) n) (least_adds-push xs p q same)

pub all_own-push : (xs : List Part) (p q : Part) → q.own ≡ p.own → all_own (xs ++ q ∷ []) ≡ all_own (xs ++ p ∷ [])
all_own-push [] p q same = ap (λ (b : Bool). b && true) same
all_own-push (x ∷ xs) p q same = ap (λ (b : Bool). x.own && b) (all_own-push xs p q same)

-- Octets

pub joined-append : (xs ys : List Part) → joined (xs ++ ys) ≡ joined xs ++ joined ys
joined-append [] ys = refl
joined-append (x ∷ xs) ys = ap (λ (l : List ℕ). x.octets ++ l) (joined-append xs ys) ∙ sym (append_assoc x.octets (joined xs) (joined ys))

pub joined-push : (ps : List Part) (p : Part) → joined (ps ++ p ∷ []) ≡ joined ps ++ p.octets
joined-push ps p = joined-append ps (p ∷ []) ∙ ap (λ (l : List ℕ). joined ps ++ l) (append-nil p.octets)
