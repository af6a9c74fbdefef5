-- Octets cut at each one that is a given octet.
use Rattle.std.proofs.Common.{◌≡◌, ℕ, ◌<◌, ◌≤◌, ◌==◌, nat_lt, Bool, true, false, cond, not, List, [], ◌∷◌, ◌++◌, length, take, drop, get_or, Option, Some, None, IsSome, IsTrue, ◌↔◌, MatchOption, refl, sym, ap, ◌∙◌, subst, arith, lt-ltb, le-ltb, eq-eqb, All, inl, inr}
use Rattle.std.proofs.lemmas.Bool.{cases_lt}
use Rattle.std.proofs.lemmas.List.Splits.{slice_split_none, slice_split_at, slice_split_first, length-slice_split, join_with_byte-slice_split}
use Rattle.std.proofs.lemmas.List.Sums.{prefix_len_passes}
use Rattle.std.proofs.lemmas.List.Elements.{All-from_get_or}
use Rattle.std.proofs.lemmas.List.{drop-drop}
use Rattle.std.specs.List.{position, position_or_len, join_with_byte}
use denote.Ref.{Bor}
use Rattle.script_words.specs.Words.{pieces, words_in}

-- no octet is this one
abbrev pub Misses : ℕ → List ℕ → Type 0
Misses at xs = All (λ c. (c == at) ≡ false) xs

not_true : (b : Bool) → not b ≡ true → b ≡ false
not_true true e = cc
not_true false e = refl

position_cases : (n l : ℕ) (r : Option ℕ) → r ≡ cond (nat_lt n l) (Some n) None → MatchOption r (l ≤ n) (λ i. (i ≡ n) × (n < l))
position_cases n l r e =
    elim (cases_lt n l) [
      | inl lt ↦ let is : r ≡ Some n = rw (lt-ltb n l lt) at e in subst (λ (q : Option ℕ). MatchOption q (l ≤ n) (λ i. (i ≡ n) × (n < l))) (sym is) (refl, lt)
      | inr le ↦ let is : r ≡ None = rw (le-ltb n l le) at e in subst (λ (q : Option ℕ). MatchOption q (l ≤ n) (λ i. (i ≡ n) × (n < l))) (sym is) le
    ]

pub cut_none : (at : ℕ) (xs : List ℕ) → None ≡ position (λ c. c == at) xs → pieces at xs ≡ xs ∷ []
cut_none at xs e =
    let far : length xs ≤ position_or_len (λ c. c == at) xs = position_cases (position_or_len (λ c. c == at) xs) (length xs) None e in
    slice_split_none (λ c. c == at) xs
    (All-from_get_or (λ c. (c == at) ≡ false) xs 0
    (λ i h. not_true (get_or xs i 0 == at) (prefix_len_passes (λ c. not (c == at)) xs i 0 (omega arith))))

pub cut_some : (at : ℕ) (xs : List ℕ) (i : ℕ) → Some i ≡ position (λ c. c == at) xs → (i < length xs) × (pieces at xs ≡ take i xs ∷ pieces at (drop 1 (drop i xs)))
cut_some at xs i e =
    let (is, lt) = position_cases (position_or_len (λ c. c == at) xs) (length xs) (Some i) e in
    let first = slice_split_first (λ c. c == at) xs 0 lt in
    (omega arith, rw (← is) at first ∙ ap (λ t. take i xs ∷ pieces at t) (sym (drop-drop 1 i xs)))

pub same_pieces : (at : ℕ) (xs ys : List ℕ) → pieces at xs ≡ pieces at ys → xs ≡ ys
same_pieces at xs ys e =
    sym (join_with_byte-slice_split at xs) ∙ ap (join_with_byte at) e ∙ join_with_byte-slice_split at ys

pub pieces_at : (at : ℕ) (xs ys : List ℕ) → Misses at xs → pieces at (xs ++ at ∷ ys) ≡ xs ∷ pieces at ys
pieces_at at xs ys h = slice_split_at (λ c. c == at) xs at ys h (eq-eqb at at refl)

pub pieces_none : (at : ℕ) (xs : List ℕ) → Misses at xs → pieces at xs ≡ xs ∷ []
pieces_none at xs h = slice_split_none (λ c. c == at) xs h

-- there is a piece
pub some_piece : (at : ℕ) (xs : List ℕ) → 0 < length (pieces at xs)
some_piece at xs = omega (arith, length-slice_split (λ b. b == at) xs)

-- a text that is there has a word
pub has_words : (o : Option (Bor (List ℕ))) → IsSome o → IsTrue false ↔ (words_in o ≡ [])
has_words None h = absurd (cc)
has_words (Some text) h = (λ f. cc, λ none. let some = some_piece 32 text.now in let n = ap length none in absurd (omega arith))
