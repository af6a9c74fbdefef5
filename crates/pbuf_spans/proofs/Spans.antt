-- Pbufs, and the parts that contracts see in their place.
use Rattle.std.proofs.Common.{◌≡◌, ℕ, zero, suc, ◌+◌, ◌-◌, ◌<◌, ◌≤◌, Bool, true, false, min, List, [], ◌∷◌, ◌++◌, length, map, take, drop, get_or, All, refl, sym, ap, ◌∙◌, arith, length-drop, length-take, take-append-drop}
use Rattle.std.specs.Prelude.{slice_range}
use Rattle.std.proofs.lemmas.List.{take-take, drop-take, drop-drop, take_all}
use Rattle.std.proofs.lemmas.List.Sums.{sum_by-cons, sum_by-append, sum_by_more, sum_by-take-drop, sum_by-take-le}
use Rattle.std.proofs.lemmas.List.Elements.{All-nil, All-cons, All-head, All-tail}
use Rattle.lw_payload.specs.Views.{Slot}
use Rattle.pbuf_seats.specs.declared.owner.Owner.{Owner}
use Rattle.pbuf_seats.specs.declared.pbuf.Pbuf.{Pbuf}
use Rattle.pbuf_seats.specs.Owners.{row_of, weight_of, adds_of}
use Rattle.pbuf_spans.specs.declared.body.Body.{Body}
use Rattle.pbuf_spans.specs.Parts.{Part, joined, all_own, rows_in, weight_in, least_adds}
use Rattle.pbuf_spans.specs.Spans.{lens, parts_of, bare, octets_of, is_own, IsSpan}
use Rattle.pbuf_spans.specs.Shares.{as_shared}

-- Lengths

pub lens-cons : (p : Pbuf) (ps : List Pbuf) → lens (p ∷ ps) ≡ p.len + lens ps
lens-cons p ps = sum_by-cons (λ (q : Pbuf). q.len) p ps

pub lens-append : (ps qs : List Pbuf) → lens (ps ++ qs) ≡ lens ps + lens qs
lens-append ps qs = sum_by-append (λ (q : Pbuf). q.len) ps qs

pub lens-front : (n : ℕ) (ps : List Pbuf) → lens (take n ps) ≤ lens ps
lens-front n ps = sum_by-take-le (λ (q : Pbuf). q.len) ps n

pub lens-more : (ps : List Pbuf) (i : ℕ) (p : Pbuf) → i < length ps → p ≡ get_or ps i p → lens (take (i + 1) ps) ≡ lens (take i ps) + p.len
lens-more ps i p inside is = let m = sum_by_more (λ (q : Pbuf). q.len) ps i p inside in let e = ap (λ (q : Pbuf). q.len) is in omega arith

pub length-parts_of : (own : Bool) (text : List ℕ) (ps : List Pbuf) → length (parts_of own text ps) ≡ length ps
length-parts_of own text [] = refl
length-parts_of own text (p ∷ ps) = let r = length-parts_of own (drop p.len text) ps in omega arith

pub length-bare : (ps : List Pbuf) → length (bare ps) ≡ length ps
length-bare [] = refl
length-bare (p ∷ ps) = let r = length-bare ps in omega arith

-- Octets

-- the first m octets and the n behind them
pub take_both : (m n : ℕ) (text : List ℕ) → take (m + n) text ≡ take m text ++ take n (drop m text)
take_both m n text = sym (take-append-drop m (take (m + n) text)) ∙ (λ i. take-take m (m + n) text (omega arith) i ++ drop-take m n text i)

pub joined-parts_of : (own : Bool) (text : List ℕ) (ps : List Pbuf) → joined (parts_of own text ps) ≡ take (lens ps) text
joined-parts_of own text [] = refl
joined-parts_of own text (p ∷ ps) = ap (λ (l : List ℕ). take p.len text ++ l) (joined-parts_of own (drop p.len text) ps) ∙ (sym (take_both p.len (lens ps) text) ∙ ap (λ (n : ℕ). take n text) (sym (lens-cons p ps)))

pub joined_all : (own : Bool) (text : List ℕ) (ps : List Pbuf) → lens ps ≡ length text → joined (parts_of own text ps) ≡ text
joined_all own text ps whole = joined-parts_of own text ps ∙ take_all (lens ps) text (omega arith)

pub length-joined : (own : Bool) (text : List ℕ) (ps : List Pbuf) → lens ps ≤ length text → length (joined (parts_of own text ps)) ≡ lens ps
length-joined own text ps enough = let e = ap length (joined-parts_of own text ps) in let t = length-take (lens ps) text in omega arith

-- the octets of a span are those of its body from `from` on and below `to`
module _ (body : Body) (from to : ℕ) (ps : List Pbuf) (span : IsSpan body from to ps) where
  pub length-text : length (slice_range (octets_of body) from to) ≡ to - from
  length-text = let a = length-take (to - from) (drop from (octets_of body)) in let b = length-drop from (octets_of body) in let s = span.0 in let e = span.1 in omega arith

  pub lens_text : lens ps ≡ length (slice_range (octets_of body) from to)
  lens_text = let l = length-text in let s = span.0 in omega arith

  pub joined_text : joined (parts_of (is_own body) (slice_range (octets_of body) from to) ps) ≡ slice_range (octets_of body) from to
  joined_text = joined_all (is_own body) (slice_range (octets_of body) from to) ps lens_text

  pub lens_joined : lens ps ≡ length (joined (parts_of (is_own body) (slice_range (octets_of body) from to) ps))
  lens_joined = let l = lens_text in let j = ap length joined_text in omega arith

-- octets behind those of the pbufs don't count
pub parts_of-take : (own : Bool) (n : ℕ) (text : List ℕ) (ps : List Pbuf) → lens ps ≤ n → parts_of own (take n text) ps ≡ parts_of own text ps
parts_of-take own n text [] enough = refl
parts_of-take own n text (p ∷ ps) enough =
    let both = lens-cons p ps in
    let here : take p.len (take n text) ≡ take p.len text = take-take p.len n text (omega arith) in
    let cut : drop p.len (take n text) ≡ take (n - p.len) (drop p.len text) = ap (λ (k : ℕ). drop p.len (take k text)) (let e : n ≡ p.len + (n - p.len) = omega arith in e) ∙ drop-take p.len (n - p.len) text in
    let rest : parts_of own (drop p.len (take n text)) ps ≡ parts_of own (drop p.len text) ps = ap (λ (l : List ℕ). parts_of own l ps) cut ∙ parts_of-take own (n - p.len) (drop p.len text) ps (omega arith) in
    λ i. record { owner = p.owner; octets = here i; own = own } ∷ rest i

pub parts_of-append : (own : Bool) (text : List ℕ) (ps qs : List Pbuf) → parts_of own text (ps ++ qs) ≡ parts_of own text ps ++ parts_of own (drop (lens ps) text) qs
parts_of-append own text [] qs = refl
parts_of-append own text (p ∷ ps) qs =
    let behind : drop (lens ps) (drop p.len text) ≡ drop (lens (p ∷ ps)) text = drop-drop (lens ps) p.len text ∙ ap (λ (n : ℕ). drop n text) (sym (lens-cons p ps)) in
    let rest : parts_of own (drop p.len text) (ps ++ qs) ≡ parts_of own (drop p.len text) ps ++ parts_of own (drop (lens (p ∷ ps)) text) qs = parts_of-append own (drop p.len text) ps qs ∙ ap (λ (l : List ℕ). parts_of own (drop p.len text) ps ++ parts_of own l qs) behind in
    ap (λ (l : List Part). record { owner = p.owner; octets = take p.len text; own = own } ∷ l) rest

-- what is left of parts from a place on
pub parts_of-drop : (own : Bool) (text : List ℕ) (i : ℕ) (ps : List Pbuf) → drop i (parts_of own text ps) ≡ parts_of own (drop (lens (take i ps)) text) (drop i ps)
parts_of-drop own text zero ps = refl
parts_of-drop own text (suc i) [] = refl
parts_of-drop own text (suc i) (p ∷ ps) = parts_of-drop own (drop p.len text) i ps
    ∙ ap (λ (l : List ℕ). parts_of own l (drop i ps)) (drop-drop (lens (take i ps)) p.len text ∙ ap (λ (n : ℕ). drop n text) (sym (lens-cons p (take i ps))))

-- how many octets stand in the pbufs from a place on
pub length-behind : (own : Bool) (text : List ℕ) (i : ℕ) (ps : List Pbuf) → lens ps ≤ length text → length (joined (drop i (parts_of own text ps))) ≡ lens (drop i ps)
length-behind own text i ps enough =
    let both = sum_by-take-drop (λ (q : Pbuf). q.len) ps i in
    let rest = length-drop (lens (take i ps)) text in
    ap (λ (l : List Part). length (joined l)) (parts_of-drop own text i ps) ∙ length-joined own (drop (lens (take i ps)) text) (drop i ps) (omega arith)

-- Owners: those of parts are those of the pbufs

pub rows_in-parts_of : (own : Bool) (text : List ℕ) (ps : List Pbuf) (s : Slot) → rows_in (parts_of own text ps) s ≡ rows_in (bare ps) s
rows_in-parts_of own text [] s = refl
rows_in-parts_of own text (p ∷ ps) s =
    let a = sum_by-cons (λ (q : Part). row_of q.owner s) record { owner = p.owner; octets = take p.len text; own = own } (parts_of own (drop p.len text) ps) in
    let b = sum_by-cons (λ (q : Part). row_of q.owner s) record { owner = p.owner; octets = []; own = true } (bare ps) in
    let r = rows_in-parts_of own (drop p.len text) ps s in
    omega arith

pub weight_in-parts_of : (own : Bool) (text : List ℕ) (ps : List Pbuf) → weight_in (parts_of own text ps) ≡ weight_in (bare ps)
weight_in-parts_of own text [] = refl
weight_in-parts_of own text (p ∷ ps) =
    let a = sum_by-cons (λ (q : Part). weight_of q.owner) record { owner = p.owner; octets = take p.len text; own = own } (parts_of own (drop p.len text) ps) in
    let b = sum_by-cons (λ (q : Part). weight_of q.owner) record { owner = p.owner; octets = []; own = true } (bare ps) in
    let r = weight_in-parts_of own (drop p.len text) ps in
    omega arith

pub least_adds-parts_of : (own : Bool) (text : List ℕ) (ps : List Pbuf) → least_adds (parts_of own text ps) ≡ least_adds (bare ps)
least_adds-parts_of own text [] = refl
least_adds-parts_of own text (p ∷ ps) = ap (λ (n : ℕ). min (adds_of p.owner) n) (least_adds-parts_of own (drop p.len text) ps)

-- what holds of the owners of parts holds of those of the pbufs
pub owners_held : (P : Owner → Type 0) (own : Bool) (text : List ℕ) (ps : List Pbuf) → All (λ (q : Part). P q.owner) (parts_of own text ps) → All (λ (q : Pbuf). P q.owner) ps
owners_held P own text [] all = All-nil (λ (q : Pbuf). P q.owner)
owners_held P own text (p ∷ ps) all =
    let here : Part = record { owner = p.owner; octets = take p.len text; own = own } in
    All-cons (λ (q : Pbuf). P q.owner) p ps (All-head (λ (q : Part). P q.owner) here (parts_of own (drop p.len text) ps) all)
    (owners_held P own (drop p.len text) ps (All-tail (λ (q : Part). P q.owner) here (parts_of own (drop p.len text) ps) all))

-- and the other way round
pub owners_seen : (P : Owner → Type 0) (own : Bool) (text : List ℕ) (ps : List Pbuf) → All (λ (q : Pbuf). P q.owner) ps → All (λ (q : Part). P q.owner) (parts_of own text ps)
owners_seen P own text [] all = All-nil (λ (q : Part). P q.owner)
owners_seen P own text (p ∷ ps) all =
    let here : Part = record { owner = p.owner; octets = take p.len text; own = own } in
    All-cons (λ (q : Part). P q.owner) here (parts_of own (drop p.len text) ps) (All-head (λ (q : Pbuf). P q.owner) p ps all)
    (owners_seen P own (drop p.len text) ps (All-tail (λ (q : Pbuf). P q.owner) p ps all))

-- likewise of bare parts
pub owners_bare : (P : Owner → Type 0) (ps : List Pbuf) → All (λ (q : Pbuf). P q.owner) ps → All (λ (q : Part). P q.owner) (bare ps)
owners_bare P [] all = All-nil (λ (q : Part). P q.owner)
owners_bare P (p ∷ ps) all =
    All-cons (λ (q : Part). P q.owner) record { owner = p.owner; octets = []; own = true } (bare ps) (All-head (λ (q : Pbuf). P q.owner) p ps all)
    (owners_bare P ps (All-tail (λ (q : Pbuf). P q.owner) p ps all))

pub bare_owners : (P : Owner → Type 0) (ps : List Pbuf) → All (λ (q : Part). P q.owner) (bare ps) → All (λ (q : Pbuf). P q.owner) ps
bare_owners P [] all = All-nil (λ (q : Pbuf). P q.owner)
bare_owners P (p ∷ ps) all =
    let here : Part = record { owner = p.owner; octets = []; own = true } in
    All-cons (λ (q : Pbuf). P q.owner) p ps (All-head (λ (q : Part). P q.owner) here (bare ps) all)
    (bare_owners P ps (All-tail (λ (q : Part). P q.owner) here (bare ps) all))

-- Bodies

pub shared_parts : (own : Bool) (text : List ℕ) (ps : List Pbuf) → map as_shared (parts_of own text ps) ≡ parts_of false text ps
shared_parts own text [] = refl
shared_parts own text (p ∷ ps) = ap (λ (l : List Part). record { owner = p.owner; octets = take p.len text; own = false } ∷ l) (shared_parts own (drop p.len text) ps)

-- other owners of the same octets, in a shared body
pub shared_owners : (f : Owner → Owner) (own : Bool) (text : List ℕ) (ps : List Pbuf)
    → parts_of false text (map (λ (p : Pbuf). record { owner = f p.owner; len = p.len }) ps) ≡ map (λ (p : Part). record { owner = f p.owner; octets = p.octets; own = false }) (parts_of own text ps)
shared_owners f own text [] = refl
shared_owners f own text (p ∷ ps) = ap (λ (l : List Part). record { owner = f p.owner; octets = take p.len text; own = false } ∷ l) (shared_owners f own (drop p.len text) ps)

-- where all parts are in bodies of their own, and there is one, the body is
pub own_body : (own : Bool) (text : List ℕ) (ps : List Pbuf) → all_own (parts_of own text ps) ≡ true → 0 < length ps → own ≡ true
own_body true text ps all some = refl
own_body false text [] all some = absurd (omega arith)
own_body false text (p ∷ ps) all some = all
