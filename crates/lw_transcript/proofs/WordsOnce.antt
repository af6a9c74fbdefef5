-- The words of a line are read once.
use Rattle.std.proofs.Common.{◌≡◌, ◌≢◌, ◌⊎◌, inl, inr, ℕ, suc, ◌/◌, ◌%◌, ◌^◌, ◌<◌, Bool, true, false, ◌&&◌, nat_eq, nat_lt, List, [], ◌∷◌, ◌++◌, length, map, All, refl, sym, ap, ◌∙◌, arith, codes, decimal, append_assoc}
use Rattle.std.proofs.lemmas.Bool.{and_parts}
use Rattle.std.proofs.lemmas.List.Elements.{All-append, All-cons, All-head, All-nil, All-tail}
use Rattle.std.specs.List.{flat_map, list_all}
use Rattle.hex.specs.Hex.{encode_lower}
use Rattle.lw_transcript.specs.Fields.{Field, Word, Number, Name, Address, Hex, Flags, Share, behind_text, field_text, ip_text, line, spaced}
use Rattle.lw_transcript.specs.Laws.{IsHeld, AreHeld}
use Rattle.lw_transcript.proofs.Cut.{Misses, decimal-misses, hex-misses}
use Rattle.lw_transcript.proofs.LineLists.{first}
use Rattle.lw_transcript.proofs.FieldsBack.{are_plain, flags_above, is_plain}

-- an octet that ends no word
abbrev IsInWord : ℕ → Type 0
IsInWord c = (c ≢ 32) × (c ≢ 10)

-- a word that no octet of it ends
abbrev IsClean : List ℕ → Type 0
IsClean xs = All IsInWord xs

misses_clean : (xs : List ℕ) → Misses 32 xs → Misses 10 xs → IsClean xs
misses_clean [] h k = All-nil IsInWord
misses_clean (x ∷ xs) h k =
    All-cons IsInWord x xs (All-head (λ c. c ≢ 32) x xs h, All-head (λ c. c ≢ 10) x xs k)
    (misses_clean xs (All-tail (λ c. c ≢ 32) x xs h) (All-tail (λ c. c ≢ 10) x xs k))

decimal-clean : (n : ℕ) → n < 2 ^ 64 → IsClean (decimal n)
decimal-clean n small = misses_clean (decimal n) (decimal-misses 32 n (omega arith) small) (decimal-misses 10 n (omega arith) small)

above-clean : (x : ℕ) → nat_lt 32 x ≡ true → IsInWord x
above-clean x above =
    (λ e. let no : nat_lt 32 x ≡ false = ap (nat_lt 32) e in cc, λ e. let no : nat_lt 32 x ≡ false = ap (nat_lt 32) e in cc)

plain-clean : (xs : List ℕ) → list_all (nat_lt 32) xs ≡ true → IsClean xs
plain-clean [] h = All-nil IsInWord
plain-clean (x ∷ xs) h =
    let parts = and_parts (nat_lt 32 x) (list_all (nat_lt 32) xs) h in
    All-cons IsInWord x xs (above-clean x parts.0) (plain-clean xs parts.1)

dotted-clean : (a b c d : List ℕ) → IsClean a → IsClean b → IsClean c → IsClean d → IsClean (a ++ codes "." ++ b ++ codes "." ++ c ++ codes "." ++ d)
dotted-clean a b c d ha hb hc hd =
    let dot : IsClean (codes ".") = plain-clean (codes ".") refl in
    All-append IsInWord (a ++ codes "." ++ b ++ codes "." ++ c ++ codes ".") d
    (All-append IsInWord (a ++ codes "." ++ b ++ codes "." ++ c) (codes ".")
    (All-append IsInWord (a ++ codes "." ++ b ++ codes ".") c
    (All-append IsInWord (a ++ codes "." ++ b) (codes ".")
    (All-append IsInWord (a ++ codes ".") b (All-append IsInWord a (codes ".") ha dot) hb) dot) hc) dot) hd

field_clean : (f : Field) → is_plain f ≡ true → IsHeld f → IsClean (field_text f)
field_clean (Word word) plain h = plain-clean word plain
field_clean (Number n) plain h = decimal-clean n (omega arith)
field_clean (Name letters n) plain h =
    All-append IsInWord letters (decimal n)
    (plain-clean letters (and_parts (nat_eq (length letters) 1) (list_all (nat_lt 32) letters) plain).1) (decimal-clean n (omega arith))
field_clean (Address ip) plain h =
    dotted-clean (decimal (ip.0 / 2 ^ 24)) (decimal (ip.0 / 2 ^ 16 % 256)) (decimal (ip.0 / 2 ^ 8 % 256)) (decimal (ip.0 % 256))
    (decimal-clean (ip.0 / 2 ^ 24) (omega arith)) (decimal-clean (ip.0 / 2 ^ 16 % 256) (omega arith))
    (decimal-clean (ip.0 / 2 ^ 8 % 256) (omega arith)) (decimal-clean (ip.0 % 256) (omega arith))
field_clean (Hex octets) plain h =
    misses_clean (encode_lower octets) (hex-misses 32 octets refl h) (hex-misses 10 octets refl h)
field_clean (Flags flags) plain h = plain-clean (field_text (Flags flags)) (flags_above flags)
field_clean (Share free all) plain h =
    All-append IsInWord (decimal free ++ codes "/") (decimal all)
    (All-append IsInWord (decimal free) (codes "/") (decimal-clean free (let few = h.0 in omega arith)) (plain-clean (codes "/") refl))
    (decimal-clean all (let few = h.1 in omega arith))

-- what ends a word: a space or a line feed
abbrev Ends : List ℕ → Type 0
Ends r = (first r ≡ 32) ⊎ (first r ≡ 10)

no_end : (y : ℕ) (ys r : List ℕ) → IsClean (y ∷ ys) → Ends r → first r ≡ y → ⊥
no_end y ys r h p e =
    elim p [
      | inl a ↦ (All-head IsInWord y ys h).0 (sym e ∙ a)
      | inr a ↦ (All-head IsInWord y ys h).1 (sym e ∙ a)
    ]

-- a word, and what stands behind it
word_once : (xs ys r s : List ℕ) → IsClean xs → IsClean ys → Ends r → Ends s → xs ++ r ≡ ys ++ s → (xs ≡ ys) × (r ≡ s)
word_once [] [] r s h k p q e = (refl, e)
word_once [] (y ∷ ys) r s h k p q e = absurd (no_end y ys r k p (ap first e))
word_once (x ∷ xs) [] r s h k p q e = absurd (no_end x xs s h q (sym (ap first e)))
word_once (x ∷ xs) (y ∷ ys) r s h k p q e =
    let heads : x ≡ y = cc in
    let tails : xs ++ r ≡ ys ++ s = cc in
    let later = word_once xs ys r s (All-tail IsInWord x xs h) (All-tail IsInWord y ys k) p q tails in
    let same : xs ≡ ys = later.0 in
    (cc, later.1)

-- what stands behind a word
words_end : (fs : List Field) (r : List ℕ) → Ends (flat_map behind_text fs ++ 10 ∷ r)
words_end [] r = inr refl
words_end (f ∷ fs) r = inl refl

more_parts : (f : Field) (fs : List Field) (r : List ℕ) → flat_map behind_text (f ∷ fs) ++ 10 ∷ r ≡ 32 ∷ (field_text f ++ (flat_map behind_text fs ++ 10 ∷ r))
more_parts f fs r = ap (λ (t : List ℕ). 32 ∷ t) (append_assoc (field_text f) (flat_map behind_text fs) (10 ∷ r))

-- fields behind others, up to the end of the line
behind_once : (fs gs : List Field) (r s : List ℕ) → are_plain fs ≡ true → are_plain gs ≡ true → AreHeld fs → AreHeld gs
    → flat_map behind_text fs ++ 10 ∷ r ≡ flat_map behind_text gs ++ 10 ∷ s → (map field_text fs ≡ map field_text gs) × (r ≡ s)
behind_once [] [] r s p q h k e = (refl, cc)
behind_once [] (g ∷ gs) r s p q h k e =
    absurd (let no : 10 ≡ 32 = ap first (e ∙ more_parts g gs s) in omega arith)
behind_once (f ∷ fs) [] r s p q h k e =
    absurd (let no : 32 ≡ 10 = ap first (sym (more_parts f fs r) ∙ e) in omega arith)
behind_once (f ∷ fs) (g ∷ gs) r s p q h k e =
    let a = and_parts (is_plain f) (are_plain fs) p in
    let b = and_parts (is_plain g) (are_plain gs) q in
    let both = sym (more_parts f fs r) ∙ e ∙ more_parts g gs s in
    let texts : field_text f ++ (flat_map behind_text fs ++ 10 ∷ r) ≡ field_text g ++ (flat_map behind_text gs ++ 10 ∷ s) = cc in
    let one = word_once (field_text f) (field_text g) (flat_map behind_text fs ++ 10 ∷ r) (flat_map behind_text gs ++ 10 ∷ s)
    (field_clean f a.0 (All-head IsHeld f fs h)) (field_clean g b.0 (All-head IsHeld g gs k)) (words_end fs r) (words_end gs s) texts in
    let later = behind_once fs gs r s a.1 b.1 (All-tail IsHeld f fs h) (All-tail IsHeld g gs k) one.1 in
    let words : field_text f ≡ field_text g = one.0 in
    let rest : map field_text fs ≡ map field_text gs = later.0 in
    (cc, later.1)

line_parts : (f : Field) (fs : List Field) (r : List ℕ) → line (f ∷ fs) ++ r ≡ field_text f ++ (flat_map behind_text fs ++ 10 ∷ r)
line_parts f fs r =
    append_assoc (field_text f ++ flat_map behind_text fs) (codes "\n") r
    ∙ append_assoc (field_text f) (flat_map behind_text fs) (10 ∷ r)

-- a line has one list of words
pub line_once : (f g : Field) (fs gs : List Field) (r s : List ℕ) → are_plain (f ∷ fs) ≡ true → are_plain (g ∷ gs) ≡ true → AreHeld (f ∷ fs)
    → AreHeld (g ∷ gs) → line (f ∷ fs) ++ r ≡ line (g ∷ gs) ++ s → (map field_text (f ∷ fs) ≡ map field_text (g ∷ gs)) × (r ≡ s)
line_once f g fs gs r s p q h k e =
    let a = and_parts (is_plain f) (are_plain fs) p in
    let b = and_parts (is_plain g) (are_plain gs) q in
    let texts = sym (line_parts f fs r) ∙ e ∙ line_parts g gs s in
    let one = word_once (field_text f) (field_text g) (flat_map behind_text fs ++ 10 ∷ r) (flat_map behind_text gs ++ 10 ∷ s)
    (field_clean f a.0 (All-head IsHeld f fs h)) (field_clean g b.0 (All-head IsHeld g gs k)) (words_end fs r) (words_end gs s) texts in
    let later = behind_once fs gs r s a.1 b.1 (All-tail IsHeld f fs h) (All-tail IsHeld g gs k) one.1 in
    let words : field_text f ≡ field_text g = one.0 in
    let rest : map field_text fs ≡ map field_text gs = later.0 in
    (cc, later.1)
