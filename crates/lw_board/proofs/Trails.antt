-- Places of trails: where they are, that more stores keep them, and that a load of a word's value has one.
use Rattle.std.proofs.Common.{◌≡◌, ◌≢◌, ℕ, zero, suc, ◌+◌, ◌-◌, ◌≤◌, eqb, cond, max, List, [], ◌∷◌, ◌++◌, length, take, refl, ap, sym, ◌∙◌, subst, append_assoc, append-nil, arith, length-append}
use Rattle.std.proofs.Math.Seq.{take-length}
use Rattle.std.proofs.lemmas.List.{take-append-le}
use Rattle.std.proofs.lemmas.List.Sums.{fold-append}
use Rattle.std.proofs.Math.Nat.{max-le, zero-max, le-max_left, le-max_right}
use mathlib.Core.Logic.{dite}
use native.Mathlib.Decide.{ℕ_discrete, dec_le}
use Rattle.lw_board.specs.Places.{Store, a_store, value_after, Trail, start, load, note, both, IsFirst, StandsAt, HasPlace, NotBefore}

-- one more store gives its word its value, and leaves the others
pub value_after-push : (ss : List Store) (j x i : ℕ) → value_after (ss ++ a_store j x ∷ []) i ≡ cond (eqb j i) x (value_after ss i)
value_after-push ss j x i = fold-append (λ (v : ℕ) (s : Store). cond (eqb s.word i) s.value v) 0 ss (a_store j x ∷ [])

-- a place is a number of stores that were made
pub place_within : (ss : List Store) (t : Trail) (p : ℕ) → StandsAt ss t p → p ≤ length ss
place_within ss start p h = omega arith
place_within ss (load t i v) p h = h.2.within
place_within ss (note t seen) p h = let a = place_within ss t h.0 h.1 in let e = ap length h.2.1 in let n = length-append seen h.2.0 in let m : length seen ≤ length ss = omega arith in subst (λ (k : ℕ). k ≤ length ss) (sym h.3) (max-le a m)
place_within ss (both t u) p h = let a = place_within ss t h.0 h.2 in let b = place_within ss u h.1 h.3 in subst (λ (k : ℕ). k ≤ length ss) (sym h.4) (max-le a b)

module _ (ss more : List Store) where
  kept : (n : ℕ) → n ≤ length ss → take n (ss ++ more) ≡ take n ss
  kept n h = take-append-le n ss more h

  first_more : (i v q p : ℕ) → IsFirst ss i v q p → IsFirst (ss ++ more) i v q p
  first_more i v q p f = let inside = f.within in record {
    from = f.from;
    within = omega (arith, length-append ss more);
    shows = ap (λ (l : List Store). value_after l i) (kept p f.within) ∙ f.shows;
    least = λ n a b e. f.least n a b (sym (ap (λ (l : List Store). value_after l i) (kept n (omega arith))) ∙ e);
  }

  -- more stores leave each place as it is
  pub stands_more : (t : Trail) (p : ℕ) → StandsAt ss t p → StandsAt (ss ++ more) t p
  stands_more start p h = h
  stands_more (load t i v) p h = (h.0, stands_more t h.0 h.1, first_more i v h.0 p h.2)
  stands_more (note t seen) p h = (h.0, stands_more t h.0 h.1, (h.2.0 ++ more, ap (λ (l : List Store). l ++ more) h.2.1 ∙ append_assoc seen h.2.0 more), h.3)
  stands_more (both t u) p h = (h.0, h.1, stands_more t h.0 h.2, stands_more u h.1 h.3, h.4)

  pub has_place_more : (t : Trail) → HasPlace ss t → HasPlace (ss ++ more) t
  has_place_more t h = (h.0, stands_more t h.0 h.1)

-- A word that now has the value had it first at some place not below q; left is how many stores come after q.
first_shown : (ss : List Store) (i v left q : ℕ) → q + left ≡ length ss → value_after ss i ≡ v → (p : ℕ) × IsFirst ss i v q p
first_shown ss i v zero q e now = (
  q,
  record {
    from = omega arith;
    within = omega arith;
    shows = let all : q ≡ length ss = omega arith in ap (λ (n : ℕ). value_after (take n ss) i) all ∙ (ap (λ (l : List Store). value_after l i) (take-length ss) ∙ now);
    least = λ n a b. absurd (omega arith);
  },
)
first_shown ss i v (suc left) q e now = dite (ℕ_discrete (value_after (take q ss) i) v)
    (λ here. (q, record { from = omega arith; within = omega arith; shows = here; least = λ n a b. absurd (omega arith) }))
    (λ other. let later = first_shown ss i v left (suc q) (omega arith) now in let f = later.1 in let above = f.from in (
      later.0,
      record {
        from = omega arith;
        within = f.within;
        shows = f.shows;
        least = λ n a b. dite (ℕ_discrete n q) (λ same. subst (λ (m : ℕ). value_after (take m ss) i ≢ v) (sym same) other) (λ not. f.least n (omega arith) b);
      },
    ))

-- a load that gave the word's value has its place
pub load_has_place : (ss : List Store) (t : Trail) (i v : ℕ) → HasPlace ss t → value_after ss i ≡ v → HasPlace ss (load t i v)
load_has_place ss t i v h now = let inside = place_within ss t h.0 h.1 in let f = first_shown ss i v (length ss - h.0) h.0 (omega arith) now in (f.0, (h.0, h.1, f.1))

-- a note of all stores stands at their end
note_place : (ss : List Store) → StandsAt ss (note start ss) (length ss)
note_place ss = (0, refl, ([], sym (append-nil ss)), sym (zero-max (length ss)))

pub note_has_place : (ss : List Store) → HasPlace ss (note start ss)
note_has_place ss = (length ss, note_place ss)

-- the same of lists and a trail that are equal to these
pub note_stands : (ss old : List Store) (t : Trail) → ss ≡ old → t ≡ note start ss → StandsAt old t (length old)
note_stands ss old t is e = subst (λ (l : List Store). StandsAt l t (length l)) is (subst (λ (u : Trail). StandsAt ss u (length ss)) (sym e) (note_place ss))

pub both_has_place : (ss : List Store) (t u : Trail) → HasPlace ss t → HasPlace ss u → HasPlace ss (both t u)
both_has_place ss t u a b = (max a.0 b.0, (a.0, b.0, a.1, b.1, refl))

first_once : (ss : List Store) (i v q p r : ℕ) → IsFirst ss i v q p → IsFirst ss i v q r → p ≡ r
first_once ss i v q p r f g = let a = f.from in let b = g.from in dite (dec_le p r)
    (λ low. dite (dec_le r p) (λ high. omega arith) (λ above. absurd (g.least p a (omega arith) f.shows)))
    (λ above. absurd (f.least r b (omega arith) g.shows))

-- a trail has no second place in one list of stores
pub one_place : (ss : List Store) (t : Trail) (p r : ℕ) → StandsAt ss t p → StandsAt ss t r → p ≡ r
one_place ss start p r a b = a ∙ sym b
one_place ss (load t i v) p r a b = first_once ss i v a.0 p r a.2 (subst (λ (q : ℕ). IsFirst ss i v q r) (one_place ss t b.0 a.0 b.1 a.1) b.2)
one_place ss (note t seen) p r a b = a.3 ∙ (ap (λ (q : ℕ). max q (length seen)) (one_place ss t a.0 b.0 a.1 b.1) ∙ sym b.3)
one_place ss (both t u) p r a b = a.4 ∙ ((λ k. max (one_place ss t a.0 b.0 a.2 b.2 k) (one_place ss u a.1 b.1 a.3 b.3 k)) ∙ sym b.4)

-- no item lowers a place
load_not_before : (t : Trail) (i v : ℕ) → NotBefore t (load t i v)
load_not_before t i v ss q p a b = subst (λ (k : ℕ). k ≤ p) (one_place ss t b.0 q b.1 a) b.2.from

both_not_before : (t u : Trail) → NotBefore t (both t u) × NotBefore u (both t u)
both_not_before t u = (
  (λ ss q p a b. let same = one_place ss t b.0 q b.2 a in let e = b.4 in let low = le-max_left b.0 b.1 in omega arith),
  (λ ss q p a b. let same = one_place ss u b.1 q b.3 a in let e = b.4 in let low = le-max_right b.0 b.1 in omega arith),
)

-- the same of trails that are equal to these
pub look_is_later : (t old new : Trail) (i v : ℕ) → t ≡ old → new ≡ load t i v → NotBefore old new
look_is_later t old new i v is e = subst (λ (x : Trail). NotBefore x new) is (subst (λ (y : Trail). NotBefore t y) (sym e) (load_not_before t i v))

pub join_is_later : (t u first second new : Trail) → t ≡ first → u ≡ second → new ≡ both t u → NotBefore first new × NotBefore second new
join_is_later t u first second new a b e = (
  subst (λ (x : Trail). NotBefore x new) a (subst (λ (y : Trail). NotBefore t y) (sym e) (both_not_before t u).0),
  subst (λ (x : Trail). NotBefore x new) b (subst (λ (y : Trail). NotBefore u y) (sym e) (both_not_before t u).1),
)
