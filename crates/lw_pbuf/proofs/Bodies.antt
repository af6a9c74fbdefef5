-- Pbufs in one body as parts: each has an octet, and none is in a shared body.
use Rattle.std.proofs.Common.{◌≡◌, ℕ, zero, suc, ◌<◌, ◌≤◌, Bool, true, List, [], ◌∷◌, length, take, drop, All, refl, ap, ◌∙◌, arith, length-take, length-drop}
use Rattle.std.proofs.lemmas.List.Elements.{All-cons, All-head, All-tail, All-nil}
use Rattle.pbuf_seats.specs.declared.pbuf.Pbuf.{Pbuf}
use Rattle.pbuf_spans.specs.Parts.{Part, joined, all_own}
use Rattle.pbuf_spans.specs.Spans.{lens, parts_of}
use Rattle.pbuf_spans.proofs.Spans.{lens-cons, lens-front, length-joined}

pub parts_of-own : (text : List ℕ) (ps : List Pbuf) → all_own (parts_of true text ps) ≡ true
parts_of-own text [] = refl
parts_of-own text (p ∷ ps) = parts_of-own (drop p.len text) ps

-- each has an octet, where each has a length and there are enough of them
pub parts_of-some : (own : Bool) (text : List ℕ) (ps : List Pbuf) → All (λ p. 0 < p.len) ps → lens ps ≤ length text → All (λ q. 0 < length q.octets) (parts_of own text ps)
parts_of-some own text [] some fits = All-nil (λ (q : Part). 0 < length q.octets)
parts_of-some own text (p ∷ ps) some fits =
    let whole = lens-cons p ps in
    let behind = length-drop p.len text in
    let front = length-take p.len text in
    let one : 0 < p.len = All-head (λ (q : Pbuf). 0 < q.len) p ps some in
    All-cons (λ (q : Part). 0 < length q.octets) (record { owner = p.owner; octets = take p.len text; own = own }) (parts_of own (drop p.len text) ps) (omega arith)
    (parts_of-some own (drop p.len text) ps (All-tail (λ (q : Pbuf). 0 < q.len) p ps some) (omega arith))

-- the first parts are those of the first pbufs
parts_of-begin : (own : Bool) (text : List ℕ) (i : ℕ) (ps : List Pbuf) → take i (parts_of own text ps) ≡ parts_of own text (take i ps)
parts_of-begin own text zero ps = refl
parts_of-begin own text (suc i) [] = refl
parts_of-begin own text (suc i) (p ∷ ps) = ap (λ (l : List Part). let q : Part = record { owner = p.owner; octets = take p.len text; own = own } in q ∷ l) (parts_of-begin own (drop p.len text) i ps)

-- how many octets the first parts have
pub length-begin : (own : Bool) (text : List ℕ) (i : ℕ) (ps : List Pbuf) → lens ps ≤ length text → length (joined (take i (parts_of own text ps))) ≡ lens (take i ps)
length-begin own text i ps fits = let less = lens-front i ps in ap (λ (l : List Part). length (joined l)) (parts_of-begin own text i ps) ∙ length-joined own text (take i ps) (omega arith)
