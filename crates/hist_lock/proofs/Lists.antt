-- Histories, parts of them, and the entries of one caller.
use Rattle.std.proofs.Common.{◌≡◌, ◌≢◌, ℕ, suc, ◌+◌, ◌≤◌, eqb, ltb, cond, All, count_by, map, List, [], ◌∷◌, ◌++◌, length, sym, refl, ap, ◌∙◌, subst, arith, append_assoc, append-nil, length-append, ne_eqb, eq-eqb, Bool, true, false, ◌==◌}
use Rattle.std.proofs.lemmas.List.Sums.{sum_by-cons}
use Rattle.std.proofs.lemmas.List.Elements.{All-nil, All-cons, All-head, All-tail, filter-append}
use Rattle.std.proofs.lemmas.Bool.Decides.{nat_tests}
use mathlib.Core.Logic.{dite}
use mathlib.Core.List.{IsPrefix}
use native.Mathlib.Decide.{dec_le}
use Rattle.hist_lock.specs.declared.table.Part.{Part}
use Rattle.hist_lock.specs.Histories.{Legal, made_by, longer, GrowsBy}

module _ {E : Type 0} where
  pub prefix_same : (xs ys : List E) → xs ≡ ys → IsPrefix xs ys
  prefix_same xs ys e = ([], append-nil xs ∙ e)

  pub prefix_more : (xs ys zs : List E) → IsPrefix xs ys → IsPrefix xs (ys ++ zs)
  prefix_more xs ys zs p = (p.0 ++ zs, sym (append_assoc xs p.0 zs) ∙ ap (λ (l : List E). l ++ zs) p.1)

  pub prefix_one : (x : E) (xs ys : List E) → IsPrefix xs ys → IsPrefix (x ∷ xs) (x ∷ ys)
  prefix_one x xs ys p = (p.0, ap (λ (l : List E). x ∷ l) p.1)

  head_same : (x y : E) (xs ys : List E) → x ∷ xs ≡ y ∷ ys → y ≡ x
  head_same x y xs ys e = cc

  tail_same : (x y : E) (xs ys : List E) → x ∷ xs ≡ y ∷ ys → xs ≡ ys
  tail_same x y xs ys e = cc

  -- of two beginnings of one list the shorter begins the longer
  pub prefix_shorter : (xs ys l : List E) → IsPrefix xs l → IsPrefix ys l → length xs ≤ length ys → IsPrefix xs ys
  prefix_shorter [] ys l p q h = (ys, refl)
  prefix_shorter (x ∷ xs) [] l p q h = absurd (omega arith)
  prefix_shorter (x ∷ xs) (y ∷ ys) l p q h = let e : x ∷ (xs ++ p.0) ≡ y ∷ (ys ++ q.0) = p.1 ∙ sym q.1 in
      let same : IsPrefix xs ys = prefix_shorter xs ys (ys ++ q.0) (p.0, tail_same x y (xs ++ p.0) (ys ++ q.0) e) (q.0, refl) (omega arith) in
      (same.0, λ i. sym (head_same x y (xs ++ p.0) (ys ++ q.0) e) i ∷ same.1 i)

  module _ (xs ys l : List E) (p : IsPrefix xs l) (q : IsPrefix ys l) where
    -- the longer of two beginnings is one, and both begin it
    pub longer_is : IsPrefix (longer xs ys) l × IsPrefix xs (longer xs ys) × IsPrefix ys (longer xs ys)
    longer_is = dite (dec_le (suc (length xs)) (length ys))
        (λ h. let t : ltb (length xs) (length ys) ≡ true = grind (arith, nat_tests) in
        subst (λ (b : Bool). let z : List E = cond b ys xs in IsPrefix z l × IsPrefix xs z × IsPrefix ys z) (sym t) (q, prefix_shorter xs ys l p q (omega arith), prefix_same ys ys refl))
        (λ h. let t : ltb (length xs) (length ys) ≡ false = grind (arith, nat_tests) in
        subst (λ (b : Bool). let z : List E = cond b ys xs in IsPrefix z l × IsPrefix xs z × IsPrefix ys z) (sym t) (p, prefix_same xs xs refl, prefix_shorter ys xs l q p (omega arith)))

  no-elements : (xs : List E) → length xs ≡ 0 → xs ≡ []
  no-elements [] h = refl
  no-elements (x ∷ xs) h = absurd (omega arith)

  module _ (by : E → ℕ) where
    -- a history has no entry of a caller that is not in it
    pub made_by-none : (n : ℕ) (log : List E) → All (λ e. by e ≢ n) log → made_by by n log ≡ []
    made_by-none n [] h = refl
    made_by-none n (e ∷ es) h = let t : eqb (by e) n ≡ false = ne_eqb (by e) n (All-head (λ e. by e ≢ n) e es h) in
        subst (λ (b : Bool). cond b (e ∷ made_by by n es) (made_by by n es) ≡ []) (sym t) (made_by-none n es (All-tail (λ e. by e ≢ n) e es h))

    -- entries of another caller add none of this one's
    pub made_by-others : (n m : ℕ) (xs ys : List E) → n ≢ m → GrowsBy by m xs ys → made_by by n ys ≡ made_by by n xs
    made_by-others n m xs ys other g = let none : made_by by n g.0 ≡ [] = made_by-none n g.0 (λ k d h e. other (sym e ∙ g.2 k d h)) in
        ap (made_by by n) g.1 ∙ (filter-append (λ e. by e == n) xs g.0 ∙ (ap (λ (l : List E). made_by by n xs ++ l) none ∙ append-nil (made_by by n xs)))

    -- where two beginnings of a history have the same entries of a caller, one between them has too
    pub made_by-between : (n : ℕ) (xs ys zs : List E) → IsPrefix xs ys → IsPrefix ys zs → made_by by n xs ≡ made_by by n zs → made_by by n xs ≡ made_by by n ys
    made_by-between n xs ys zs p q e = let a : made_by by n ys ≡ made_by by n xs ++ made_by by n p.0 = ap (made_by by n) (sym p.1) ∙ filter-append (λ e. by e == n) xs p.0 in
        let b : made_by by n zs ≡ made_by by n ys ++ made_by by n q.0 = ap (made_by by n) (sym q.1) ∙ filter-append (λ e. by e == n) ys q.0 in
        let c : made_by by n ys ++ made_by by n q.0 ≡ made_by by n xs = sym b ∙ sym e in
        let none : length (made_by by n p.0) ≡ 0 = let la = ap length a in let lc = ap length c in omega (arith, length-append (made_by by n xs) (made_by by n p.0), length-append (made_by by n ys) (made_by by n q.0)) in
        sym (a ∙ (ap (λ (l : List E). made_by by n xs ++ l) (no-elements (made_by by n p.0) none) ∙ append-nil (made_by by n xs)))

    pub made_by-begin : (n : ℕ) (xs ys : List E) → IsPrefix xs ys → made_by by n ys ≡ [] → made_by by n xs ≡ []
    made_by-begin n xs ys p e = let a : made_by by n xs ++ made_by by n p.0 ≡ [] = sym (filter-append (λ e. by e == n) xs p.0) ∙ (ap (made_by by n) p.1 ∙ e) in
        no-elements (made_by by n xs) (let la = ap length a in omega (arith, length-append (made_by by n xs) (made_by by n p.0)))

    pub made_by-one : (n : ℕ) (xs : List E) (e : E) → by e ≡ n → made_by by n (xs ++ e ∷ []) ≡ made_by by n xs ++ e ∷ []
    made_by-one n xs e is = let t : eqb (by e) n ≡ true = eq-eqb (by e) n is in
        filter-append (λ e. by e == n) xs (e ∷ []) ∙ ap (λ (b : Bool). made_by by n xs ++ cond b (e ∷ []) []) t

  module _ {S : Type 0} (steps : S → E → S → Type 0) where
    -- a beginning of a legal history is legal
    pub Legal-begin : (s t : S) (xs ys : List E) → Legal steps s (xs ++ ys) t → (u : S) × Legal steps s xs u
    Legal-begin s t [] ys h = (s, refl)
    Legal-begin s t (x ∷ xs) ys h = let rest = Legal-begin h.0 t xs ys h.2 in (rest.0, (h.0, h.1, rest.1))

    pub Legal-push : (s t u : S) (xs : List E) (e : E) → Legal steps s xs t → steps t e u → Legal steps s (xs ++ e ∷ []) u
    Legal-push s t u [] e h g = (u, subst (λ (z : S). steps z e u) (sym h) g, refl)
    Legal-push s t u (x ∷ xs) e h g = (h.0, h.1, Legal-push h.0 t u xs e h.2 g)

-- no part of the number n stands in a list that counts none
pub absent : {E : Type 0} (n : ℕ) (ps : List (Part E)) → count_by (λ p. p.number == n) ps ≡ 0 → All (λ p. p.number ≢ n) ps
absent {E} n [] e = All-nil (λ (p : Part E). p.number ≢ n)
absent {E} n (p ∷ ps) e = let c = sum_by-cons (λ (p : Part E). cond (p.number == n) 1 0) p ps in
    let zero_here : ◌≡◌ {A = ℕ} (cond (p.number == n) 1 0) 0 = omega arith in let zero_rest : count_by (λ (p : Part E). p.number == n) ps ≡ 0 = omega arith in
    All-cons (λ (p : Part E). p.number ≢ n) p ps (λ is. let t : eqb p.number n ≡ true = eq-eqb p.number n is in let o : ◌≡◌ {A = ℕ} (cond (eqb p.number n) 1 0) 1 = ap (λ (b : Bool). let k : ℕ = cond b 1 0 in k) t in absurd (omega arith)) (absent n ps zero_rest)

module _ {A B : Type 0} (f : A → B) where
  pub All-unmap : (P : B → Type 0) (xs : List A) → All P (map f xs) → All (λ x. P (f x)) xs
  All-unmap P [] h = All-nil (λ (x : A). P (f x))
  All-unmap P (x ∷ xs) h = All-cons (λ (x : A). P (f x)) x xs (All-head P (f x) (map f xs) h) (All-unmap P xs (All-tail P (f x) (map f xs) h))

  pub count_by-map : (p : B → Bool) (xs : List A) → count_by p (map f xs) ≡ count_by (λ x. p (f x)) xs
  count_by-map p [] = refl
  count_by-map p (x ∷ xs) = sum_by-cons (λ y. cond (p y) 1 0) (f x) (map f xs) ∙ (ap (λ (n : ℕ). cond (p (f x)) 1 0 + n) (count_by-map p xs) ∙ sym (sum_by-cons (λ x. cond (p (f x)) 1 0) x xs))
