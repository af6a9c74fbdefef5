-- What stands before an octet that isn't in it is read once: octets, decimal numbers, hexadecimal octets and the texts of calls.
use Rattle.std.proofs.Common.{◌≡◌, ◌≢◌, ℕ, suc, ◌/◌, ◌%◌, ◌^◌, ◌<◌, Bool, true, false, ◌&&◌, nat_lt, nat_le, List, [], ◌∷◌, ◌++◌, length, get_or, slice_index, All, Some, None, refl, sym, ap, ◌∙◌, arith, decimal}
use Rattle.std.proofs.lemmas.Bool.{and_parts}
use Rattle.std.proofs.lemmas.Fmt.{decimal_injective, decimal_is_IsNumeral}
use Rattle.std.proofs.lemmas.Str.Parse.{digit_at}
use Rattle.std.proofs.lemmas.List.Elements.{All-append, All-cons, All-from_get_or, All-head, All-nil, All-tail}
use Rattle.std.specs.Int.{IsInRange}
use Rattle.std.specs.List.{join_with_byte, list_all}
use Rattle.hex.specs.Hex.{IsBytes, decode_of, encode_lower, encode_with, hex_digit_value, lower_digits}
use Rattle.hex.proofs.HexLemmas.{IsDigits-lower_digits, decode_of-encode_lower}
use Rattle.lw_transcript.specs.Transcript.{IsCallText, is_word}

-- no octet is this one
abbrev pub Misses : ℕ → List ℕ → Type 0
Misses at xs = All (λ c. c ≢ at) xs

-- what stands before the first of these octets, and what stands behind it
pub cut_once : (at : ℕ) (xs ys r s : List ℕ) → Misses at xs → Misses at ys → xs ++ at ∷ r ≡ ys ++ at ∷ s → (xs ≡ ys) × (r ≡ s)
cut_once at [] [] r s h k e = (refl, cc)
cut_once at [] (y ∷ ys) r s h k e = let same : y ≡ at = cc in absurd (All-head (λ c. c ≢ at) y ys k same)
cut_once at (x ∷ xs) [] r s h k e = let same : x ≡ at = cc in absurd (All-head (λ c. c ≢ at) x xs h same)
cut_once at (x ∷ xs) (y ∷ ys) r s h k e =
    let heads : x ≡ y = cc in
    let tails : xs ++ at ∷ r ≡ ys ++ at ∷ s = cc in
    let later = cut_once at xs ys r s (All-tail (λ c. c ≢ at) x xs h) (All-tail (λ c. c ≢ at) y ys k) tails in
    let same : xs ≡ ys = later.0 in
    (cc, later.1)

-- a number has digits alone
pub decimal-misses : (at n : ℕ) → at < 48 → n < 2 ^ 64 → Misses at (decimal n)
decimal-misses at n below small =
    All-from_get_or (λ c. c ≢ at) (decimal n) 0
    (λ i h. let r : IsInRange 48 57 (get_or (decimal n) i 0) = digit_at (decimal n) i (decimal_is_IsNumeral n small).0.1 h in let ne : get_or (decimal n) i 0 ≢ at = omega arith in ne)

-- a number, and what stands behind it
pub decimal_once : (at m n : ℕ) (r s : List ℕ) → at < 48 → m < 2 ^ 32 → n < 2 ^ 32 → decimal m ++ at ∷ r ≡ decimal n ++ at ∷ s → (m ≡ n) × (r ≡ s)
decimal_once at m n r s below h k e =
    let cut = cut_once at (decimal m) (decimal n) r s (decimal-misses at m below (omega arith)) (decimal-misses at n below (omega arith)) e in
    (decimal_injective m n (omega arith) (omega arith) cut.0, cut.1)

-- an octet that is no digit is none of the sixteen
digit-misses : (at d : ℕ) → hex_digit_value at ≡ None → d < 16 → slice_index lower_digits d ≢ at
digit-misses at d none small =
    λ same.
    let value : hex_digit_value (slice_index lower_digits d) ≡ Some d = IsDigits-lower_digits d small in
    let other : hex_digit_value (slice_index lower_digits d) ≡ None = ap hex_digit_value same ∙ none in
    cc

pub hex-misses : (at : ℕ) (xs : List ℕ) → hex_digit_value at ≡ None → IsBytes xs → Misses at (encode_lower xs)
unfolding encode_with
hex-misses at [] none h = All-nil (λ c. c ≢ at)
hex-misses at (x ∷ xs) none h =
    let fits : x < 256 = h 0 in
    All-cons (λ c. c ≢ at) (slice_index lower_digits (x / 16)) (slice_index lower_digits (x % 16) ∷ encode_lower xs) (digit-misses at (x / 16) none (omega arith))
    (All-cons (λ c. c ≢ at) (slice_index lower_digits (x % 16)) (encode_lower xs) (digit-misses at (x % 16) none (omega arith)) (hex-misses at xs none (λ i. h (suc i))))

pub hex_injective : (xs ys : List ℕ) → IsBytes xs → IsBytes ys → encode_lower xs ≡ encode_lower ys → xs ≡ ys
hex_injective xs ys h k e =
    let back = sym (decode_of-encode_lower xs h) ∙ ap decode_of e ∙ decode_of-encode_lower ys k in cc

-- octets in hexadecimal, and what stands behind them
pub hex_once : (at : ℕ) (xs ys r s : List ℕ) → hex_digit_value at ≡ None → IsBytes xs → IsBytes ys
    → encode_lower xs ++ at ∷ r ≡ encode_lower ys ++ at ∷ s → (xs ≡ ys) × (r ≡ s)
hex_once at xs ys r s none h k e =
    let cut = cut_once at (encode_lower xs) (encode_lower ys) r s (hex-misses at xs none h) (hex-misses at ys none k) e in
    (hex_injective xs ys h k cut.0, cut.1)

-- an octet of a word
abbrev printable : ℕ → Bool
printable octet = nat_le 33 octet && nat_le octet 126

printable-misses : (xs : List ℕ) → list_all printable xs ≡ true → Misses 10 xs
printable-misses [] e = All-nil (λ c. c ≢ 10)
printable-misses (x ∷ xs) e =
    let parts = and_parts (printable x) (list_all printable xs) e in
    let ne : x ≢ 10 = λ same. let no : printable x ≡ false = ap printable same in let yes = parts.0 in cc in
    All-cons (λ c. c ≢ 10) x xs ne (printable-misses xs parts.1)

words-miss : (words : List (List ℕ)) → list_all is_word words ≡ true → Misses 10 (join_with_byte 32 words)
words-miss [] e = All-nil (λ c. c ≢ 10)
words-miss (x ∷ []) e =
    let parts = and_parts (is_word x) true e in
    printable-misses x (and_parts (nat_lt 0 (length x)) (list_all printable x) parts.0).1
words-miss (x ∷ y ∷ xs) e =
    let parts = and_parts (is_word x) (list_all is_word (y ∷ xs)) e in
    let word = printable-misses x (and_parts (nat_lt 0 (length x)) (list_all printable x) parts.0).1 in
    let ne : 32 ≢ 10 = omega arith in
    All-append (λ c. c ≢ 10) x (32 ∷ join_with_byte 32 (y ∷ xs)) word
    (All-cons (λ c. c ≢ 10) 32 (join_with_byte 32 (y ∷ xs)) ne (words-miss (y ∷ xs) parts.1))

-- the text of a call is within a line
pub call-misses : (text : List ℕ) → IsCallText text → Misses 10 text
call-misses text is = rw is.spelled (words-miss is.words is.each)
