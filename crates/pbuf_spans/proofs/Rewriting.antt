-- Octets that are written over those of a span.
use Rattle.std.proofs.Common.{◌≡◌, ℕ, ◌+◌, ◌-◌, ◌≤◌, Bool, true, false, List, [], ◌∷◌, ◌++◌, length, take, drop, refl, sym, ap, ◌∙◌, subst, arith, length-append, length-drop, length-take}
use Rattle.std.specs.Prelude.{slice_range}
use borrow.Rule.Slice.PartMut.{put_mid}
use Rattle.std.proofs.lemmas.Bool.{false≢true}
use Rattle.std.proofs.lemmas.List.{nil_from_length}
use Rattle.pbuf_seats.specs.declared.pbuf.Pbuf.{Pbuf}
use Rattle.pbuf_spans.specs.declared.body.Body.{Body}
use Rattle.pbuf_spans.specs.Parts.{Part, joined, all_own}
use Rattle.pbuf_spans.specs.Spans.{lens, parts_of, octets_of, is_own, IsSpan}
use Rattle.pbuf_spans.specs.Cuts.{IsRewritten}
use Rattle.pbuf_spans.proofs.Spans.{lens-cons, length-text, joined_all, joined_text, own_body}

-- octets that are as many as those of a span
pub as_many : (body : Body) (from to : ℕ) (ps : List Pbuf) (was : List Part) (octets : List ℕ) → IsSpan body from to ps → parts_of (is_own body) (slice_range (octets_of body) from to) ps ≡ was → length octets ≡ length (joined was) → length octets ≡ to - from
as_many body from to ps was octets span is exact =
    let j = ap length (joined_text body from to ps span) in
    let l = length-text body from to ps span in
    let e = ap (λ (x : List Part). length (joined x)) is in
    omega arith

-- a list of which a part was written over has the same length
pub length-put_mid : (from many : ℕ) (xs ys : List ℕ) → from + many ≤ length xs → length ys ≡ many → length (put_mid from many xs ys) ≡ length xs
length-put_mid from many xs ys within long =
    let behind : List ℕ = drop many (drop from xs) in
    let a = length-append (take from xs) (ys ++ behind) in
    let b = length-append ys behind in
    let c = length-take from xs in
    let d = length-drop many (drop from xs) in
    let e = length-drop from xs in
    omega arith

-- the same pbufs over other octets
rewritten_parts : (own : Bool) (text new : List ℕ) (ps : List Pbuf) → lens ps ≤ length text → lens ps ≤ length new → IsRewritten (parts_of own text ps) (parts_of own new ps)
rewritten_parts own text new [] enough enough' = tt
rewritten_parts own text new (p ∷ ps) enough enough' =
    let both = lens-cons p ps in
    let a = length-take p.len text in
    let b = length-take p.len new in
    let c = length-drop p.len text in
    let d = length-drop p.len new in
    (refl, refl, let e : length (take p.len new) ≡ length (take p.len text) = omega arith in e, rewritten_parts own (drop p.len text) (drop p.len new) ps (omega arith) (omega arith))

-- as many octets as there were are written over those of pbufs
pub written_over : (own : Bool) (text new octets : List ℕ) (ps : List Pbuf) (was : List Part) (b : Bool) → b ≡ own → parts_of b text ps ≡ was → lens ps ≡ length text → length octets ≡ length (joined was) → new ≡ octets
    → (joined (parts_of own new ps) ≡ octets) × IsRewritten was (parts_of own new ps)
written_over own text new octets ps was b same is whole exact written =
    let old : parts_of own text ps ≡ was = ap (λ (c : Bool). parts_of c text ps) (sym same) ∙ is in
    let before = ap length (joined_all own text ps whole) in
    let joins = ap (λ (l : List Part). length (joined l)) old in
    let now = ap length written in
    (joined_all own new ps (omega arith) ∙ written, subst (λ (l : List Part). IsRewritten l (parts_of own new ps)) old (rewritten_parts own text new ps (omega arith) (omega arith)))

-- where the body isn't one chain's alone, and all pbufs are in bodies that are, there is none
pub none_written : (own : Bool) (text octets : List ℕ) (ps : List Pbuf) (was : List Part) → own ≡ false → parts_of own text ps ≡ was → all_own was ≡ true → length octets ≡ length (joined was)
    → (joined (parts_of own text ps) ≡ octets) × IsRewritten was (parts_of own text ps)
none_written own text octets [] was off is all exact = (
  sym (nil_from_length octets (let j = ap (λ (l : List Part). length (joined l)) is in omega arith)),
  subst (λ (l : List Part). IsRewritten l []) is tt,
)
none_written own text octets (p ∷ ps) was off is all exact =
    absurd (false≢true (sym off ∙ own_body own text (p ∷ ps) (subst (λ (l : List Part). all_own l ≡ true) (sym is) all) (omega arith)))
