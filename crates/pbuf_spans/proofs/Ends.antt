-- Pbufs without octets at one end.
use Rattle.std.proofs.Common.{◌≡◌, ℕ, ◌+◌, ◌-◌, ◌<◌, ◌≤◌, Bool, true, false, cond, eqb, ltb, List, [], ◌∷◌, ◌++◌, length, take, drop, All, refl, sym, ap, ◌∙◌, arith, length-append, append-nil, ne_eqb}
use Rattle.std.proofs.lemmas.List.{take_all}
use Rattle.std.proofs.lemmas.List.Elements.{All-head, All-tail}
use Rattle.std.proofs.lemmas.Bool.{false≢true}
use Rattle.std.proofs.lemmas.Bool.Decides.{Decides-ltb}
use Rattle.pbuf_spans.specs.Parts.{Part, joined}
use Rattle.pbuf_spans.specs.Cuts.{without_front, with_front}

-- the first octets of a pbuf, and the others
abbrev later : ℕ → Part → Part
later n p = record { owner = p.owner; octets = drop n p.octets; own = p.own }

abbrev earlier : ℕ → Part → Part
earlier n p = record { owner = p.owner; octets = take n p.octets; own = p.own }

chosen_true : {A : Type 0} (b : Bool) (x y : A) → b ≡ true → cond b x y ≡ x
chosen_true true x y e = refl
chosen_true false x y e = absurd (false≢true e)

chosen_false : {A : Type 0} (b : Bool) (x y : A) → (b ≡ true → ⊥) → cond b x y ≡ y
chosen_false true x y no' = absurd (no' refl)
chosen_false false x y no' = refl

pub front_here : (p : Part) (ps : List Part) (n : ℕ) → n < length p.octets → without_front n (p ∷ ps) ≡ later n p ∷ ps
front_here p ps n short = chosen_true (ltb n (length p.octets)) (later n p ∷ ps) (without_front (n - length p.octets) ps) ((Decides-ltb n (length p.octets)).1 short)

pub front_past : (p : Part) (ps : List Part) (n : ℕ) → length p.octets ≤ n → without_front n (p ∷ ps) ≡ without_front (n - length p.octets) ps
front_past p ps n long = chosen_false (ltb n (length p.octets)) (later n p ∷ ps) (without_front (n - length p.octets) ps) (λ e. let l = (Decides-ltb n (length p.octets)).0 e in absurd (omega arith))

-- nothing is cut off
pub front_none : (ps : List Part) → All (λ p. 0 < length p.octets) ps → without_front 0 ps ≡ ps
front_none [] some = refl
front_none (p ∷ ps) some = front_here p ps 0 (All-head (λ (q : Part). 0 < length q.octets) p ps some)

-- all of the first pbufs is cut off, or not all
pub front_beyond : (xs ys : List Part) (n : ℕ) → length (joined xs) ≤ n → without_front n (xs ++ ys) ≡ without_front (n - length (joined xs)) ys
front_beyond [] ys n long = ap (λ (k : ℕ). without_front k ys) (let e : n ≡ n - 0 = omega arith in e)
front_beyond (x ∷ xs) ys n long =
    let both = length-append x.octets (joined xs) in
    front_past x (xs ++ ys) n (omega arith)
    ∙ (front_beyond xs ys (n - length x.octets) (omega arith) ∙ ap (λ (k : ℕ). without_front k ys) (let e : n - length x.octets - length (joined xs) ≡ n - length (joined (x ∷ xs)) = omega arith in e))

front_either : (b : Bool) (x : Part) (xs ys : List Part) (n : ℕ) → (b ≡ false → without_front (n - length x.octets) (xs ++ ys) ≡ without_front (n - length x.octets) xs ++ ys)
    → cond b (later n x ∷ (xs ++ ys)) (without_front (n - length x.octets) (xs ++ ys)) ≡ cond b (later n x ∷ xs) (without_front (n - length x.octets) xs) ++ ys
front_either true x xs ys n rest = refl
front_either false x xs ys n rest = rest refl

not_below : (m n : ℕ) → ltb n m ≡ false → m ≤ n
not_below m n e = let at : n < m → ⊥ = λ less. false≢true (sym e ∙ (Decides-ltb n m).1 less) in omega arith

pub front_within : (xs ys : List Part) (n : ℕ) → n < length (joined xs) → without_front n (xs ++ ys) ≡ without_front n xs ++ ys
front_within [] ys n short = absurd (omega arith)
front_within (x ∷ xs) ys n short =
    let both = length-append x.octets (joined xs) in
    front_either (ltb n (length x.octets)) x xs ys n (λ e. front_within xs ys (n - length x.octets) (let l = not_below (length x.octets) n e in omega arith))

pub front_all : (xs : List Part) (n : ℕ) → length (joined xs) ≤ n → without_front n xs ≡ []
front_all xs n long = ap (without_front n) (sym (append-nil xs)) ∙ front_beyond xs [] n long

-- no octet stays
pub back_none : (ps : List Part) → with_front 0 ps ≡ []
back_none [] = refl
back_none (p ∷ ps) = refl

back_some : (p : Part) (ps : List Part) (n : ℕ) → 0 < n → with_front n (p ∷ ps) ≡ earlier n p ∷ with_front (n - length p.octets) ps
back_some p ps n some = let e = ne_eqb n 0 (λ e. absurd (omega arith)) in chosen_false (eqb n 0) [] (earlier n p ∷ with_front (n - length p.octets) ps) (λ t. false≢true (sym e ∙ t))

whole : (p : Part) (n : ℕ) → length p.octets ≤ n → earlier n p ≡ p
whole p n long = λ i. record { owner = p.owner; octets = take_all n p.octets long i; own = p.own }

-- all of the first pbufs stays, or not all
pub back_beyond : (xs ys : List Part) (n : ℕ) → All (λ p. 0 < length p.octets) xs → with_front (length (joined xs) + n) (xs ++ ys) ≡ xs ++ with_front n ys
back_beyond [] ys n some = ap (λ (k : ℕ). with_front k ys) (let e : 0 + n ≡ n = omega arith in e)
back_beyond (x ∷ xs) ys n some =
    let both = length-append x.octets (joined xs) in
    let one = All-head (λ (q : Part). 0 < length q.octets) x xs some in
    back_some x (xs ++ ys) (length (joined (x ∷ xs)) + n) (omega arith)
    ∙ ((λ i. whole x (length (joined (x ∷ xs)) + n) (omega arith) i ∷ with_front ((let e : length (joined (x ∷ xs)) + n - length x.octets ≡ length (joined xs) + n = omega arith in e) i) (xs ++ ys))
    ∙ ap (λ (l : List Part). x ∷ l) (back_beyond xs ys n (All-tail (λ (q : Part). 0 < length q.octets) x xs some)))

pub back_within : (xs ys : List Part) (n : ℕ) → n ≤ length (joined xs) → with_front n (xs ++ ys) ≡ with_front n xs
back_within [] ys n short = ap (λ (k : ℕ). with_front k ys) (let e : n ≡ 0 = omega arith in e) ∙ back_none ys
back_within (x ∷ xs) ys n short =
    let both = length-append x.octets (joined xs) in
    ap (λ (l : List Part). cond (eqb n 0) [] (earlier n x ∷ l)) (back_within xs ys (n - length x.octets) (omega arith))

pub back_all : (ps : List Part) (n : ℕ) → n ≡ length (joined ps) → All (λ p. 0 < length p.octets) ps → with_front n ps ≡ ps
back_all ps n all some =
    (λ i. with_front ((let e : n ≡ length (joined ps) + 0 = omega arith in e) i) (sym (append-nil ps) i)) ∙ (back_beyond ps [] 0 some ∙ append-nil ps)

-- of the last pbuf some octets stay
pub back_last : (xs : List Part) (p : Part) (n m : ℕ) → All (λ p. 0 < length p.octets) xs → 0 < m → n ≡ length (joined xs) + m → with_front n (xs ++ p ∷ []) ≡ xs ++ earlier m p ∷ []
back_last xs p n m some more is =
    ap (λ (k : ℕ). with_front k (xs ++ p ∷ [])) is ∙ (back_beyond xs (p ∷ []) m some ∙ ap (λ (l : List Part). xs ++ l) (back_some p [] m more))
