-- A field is read back from its text, where it is known of which sort it is.
use Rattle.std.proofs.Common.{◌≡◌, ◌≢◌, ℕ, zero, suc, ◌+◌, ◌*◌, ◌/◌, ◌%◌, ◌^◌, ◌<◌, Bool, true, false, ◌&&◌, ◌||◌, eqb, nat_eq, nat_lt, List, [], ◌∷◌, ◌++◌, length, take, drop, map, All, Result, Ok, Err, refl, sym, ap, ◌∙◌, arith, codes, decimal, append_assoc, if◌then◌else◌}
use Rattle.std.proofs.lemmas.Bool.{and_parts}
use Rattle.std.proofs.lemmas.Fmt.{decimal_is_IsNumeral}
use Rattle.std.proofs.lemmas.List.Elements.{All-append, All-cons, All-head, All-nil, All-tail}
use Rattle.std.specs.List.{list_all}
use Rattle.std.specs.Str.Parse.{digits_value}
use Rattle.hex.specs.Hex.{IsBytes, decode_of, encode_lower}
use Rattle.hex.proofs.HexLemmas.{decode_of-encode_lower}
use Rattle.lw_base.specs.declared.addresses.Ip.{Ip}
use Rattle.lw_base.specs.declared.event_word.Flag.TheVariants.{Writable, Rest, Ended, Fault, Closed, Listen, Idle}
use Rattle.lw_base.specs.EventWord.{is_set}
use Rattle.lw_transcript.specs.Fields.{Field, Word, Number, Name, Address, Hex, Flags, Share, field_text, flag_letters, ip_text, or_dash, where_set}
use Rattle.lw_transcript.specs.Laws.{IsHeld, AreHeld}
use Rattle.lw_transcript.proofs.Cut.{Misses, decimal-misses, hex-misses}

-- the sorts of fields
pub data Sort : Type 0 where
  AWord : Sort
  ANumber : Sort
  AName : Sort
  AnAddress : Sort
  AHex : Sort
  TheFlags : Sort
  AShare : Sort

abbrev pub sort_of : Field → Sort
sort_of (Word word) = AWord
sort_of (Number n) = ANumber
sort_of (Name letters n) = AName
sort_of (Address ip) = AnAddress
sort_of (Hex octets) = AHex
sort_of (Flags flags) = TheFlags
sort_of (Share free all) = AShare

-- what stands before the first of these octets
abbrev pub before : ℕ → List ℕ → List ℕ
before at [] = []
before at (x ∷ xs) = if nat_eq x at then [] else x ∷ before at xs

-- what stands behind it
abbrev pub after : ℕ → List ℕ → List ℕ
after at [] = []
after at (x ∷ xs) = if nat_eq x at then xs else after at xs

other : (x at : ℕ) → x ≢ at → nat_eq x at ≡ false
other x at ne = grind (arith, ne)

same : (at : ℕ) → nat_eq at at ≡ true
same at = grind arith

pub before_cut : (at : ℕ) (xs r : List ℕ) → Misses at xs → before at (xs ++ at ∷ r) ≡ xs
before_cut at [] r h = rw (same at) refl
before_cut at (x ∷ xs) r h =
    rw (other x at (All-head (λ c. c ≢ at) x xs h)) (ap (λ (l : List ℕ). x ∷ l) (before_cut at xs r (All-tail (λ c. c ≢ at) x xs h)))

pub after_cut : (at : ℕ) (xs r : List ℕ) → Misses at xs → after at (xs ++ at ∷ r) ≡ r
after_cut at [] r h = rw (same at) refl
after_cut at (x ∷ xs) r h = rw (other x at (All-head (λ c. c ≢ at) x xs h)) (after_cut at xs r (All-tail (λ c. c ≢ at) x xs h))

number_back : (n : ℕ) → n < 2 ^ 64 → digits_value 10 (decimal n) ≡ n
number_back n small = (decimal_is_IsNumeral n small).1

abbrev number_in : List ℕ → ℕ
number_in word = digits_value 10 word

-- an address
abbrev ip_in : List ℕ → Ip
ip_in word =
    let b = after 46 word in
    let c = after 46 b in
    record {
      0 = number_in (before 46 word) * 2 ^ 24 + number_in (before 46 b) * 2 ^ 16 + number_in (before 46 c) * 2 ^ 8 + number_in (after 46 c);
    }

ip_parts : (a b c d : List ℕ) → a ++ codes "." ++ b ++ codes "." ++ c ++ codes "." ++ d ≡ a ++ 46 ∷ (b ++ 46 ∷ (c ++ 46 ∷ d))
ip_parts a b c d = simp append_assoc

ip_whole : (n : ℕ) → n < 2 ^ 32 → n / 2 ^ 24 * 2 ^ 24 + n / 2 ^ 16 % 256 * 2 ^ 16 + n / 2 ^ 8 % 256 * 2 ^ 8 + n % 256 ≡ n
ip_whole n small = omega arith

ip_of_four : (a b c d n : ℕ) → a < 2 ^ 32 → b < 256 → c < 256 → d < 256 → a * 2 ^ 24 + b * 2 ^ 16 + c * 2 ^ 8 + d ≡ n
    → ip_in (decimal a ++ 46 ∷ (decimal b ++ 46 ∷ (decimal c ++ 46 ∷ decimal d))) ≡ record { 0 = n }
ip_of_four a b c d n ha hb hc hd is =
    let ma = decimal-misses 46 a (omega arith) (omega arith) in
    let mb = decimal-misses 46 b (omega arith) (omega arith) in
    let mc = decimal-misses 46 c (omega arith) (omega arith) in
    rw (
      before_cut 46 (decimal a) (decimal b ++ 46 ∷ (decimal c ++ 46 ∷ decimal d)) ma,
      after_cut 46 (decimal a) (decimal b ++ 46 ∷ (decimal c ++ 46 ∷ decimal d)) ma,
      before_cut 46 (decimal b) (decimal c ++ 46 ∷ decimal d) mb,
      after_cut 46 (decimal b) (decimal c ++ 46 ∷ decimal d) mb,
      before_cut 46 (decimal c) (decimal d) mc,
      after_cut 46 (decimal c) (decimal d) mc,
      number_back a (omega arith),
      number_back b (omega arith),
      number_back c (omega arith),
      number_back d (omega arith),
      is,
    ) refl

ip_back : (ip : Ip) → ip.0 < 2 ^ 32 → ip_in (ip_text ip) ≡ ip
ip_back ip small =
    let n = ip.0 in
    ap ip_in (ip_parts (decimal (n / 2 ^ 24)) (decimal (n / 2 ^ 16 % 256)) (decimal (n / 2 ^ 8 % 256)) (decimal (n % 256)))
    ∙ ip_of_four (n / 2 ^ 24) (n / 2 ^ 16 % 256) (n / 2 ^ 8 % 256) (n % 256) n (omega arith) (omega arith) (omega arith) (omega arith) (ip_whole n small)

abbrev octets_in : {E : Type 0} → Result (List ℕ) E → List ℕ
octets_in (Ok octets) = octets
octets_in (Err fault) = []

-- whether an octet stands in a list
abbrev has : ℕ → List ℕ → Bool
has c [] = false
has c (x ∷ xs) = nat_eq x c || has c xs

and_true : (x : Bool) → (x && true) ≡ x
and_true true = refl
and_true false = refl

and_false : (x : Bool) → (x && false) ≡ false
and_false true = refl
and_false false = refl

or_false : (x : Bool) → (x || false) ≡ x
or_false true = refl
or_false false = refl

has_set : (c l : ℕ) (b : Bool) (xs : List ℕ) → has c (where_set b l ++ xs) ≡ ((nat_eq l c && b) || has c xs)
has_set c l true xs = ap (λ (x : Bool). x || has c xs) (sym (and_true (nat_eq l c)))
has_set c l false xs = ap (λ (x : Bool). x || has c xs) (sym (and_false (nat_eq l c)))

-- one letter of a list, where the rest has it so
has_next : (c l : ℕ) (b r : Bool) (xs : List ℕ) → has c xs ≡ r → has c (where_set b l ++ xs) ≡ ((nat_eq l c && b) || r)
has_next c l b r xs rest = has_set c l b xs ∙ ap (λ (x : Bool). (nat_eq l c && b) || x) rest

-- the letters of seven flags
abbrev seven : Bool → Bool → Bool → Bool → Bool → Bool → Bool → List ℕ
seven a b c d e f g =
    where_set a 87 ++ (where_set b 82 ++ (where_set c 69 ++ (where_set d 70 ++ (where_set e 67 ++ (where_set f 76 ++ (where_set g 73 ++ []))))))

has_seven : (x : ℕ) (a b c d e f g : Bool) → has x (seven a b c d e f g)
    ≡ ((nat_eq 87 x && a) || ((nat_eq 82 x && b) || ((nat_eq 69 x && c) || ((nat_eq 70 x && d) || ((nat_eq 67 x && e) || ((nat_eq 76 x && f) || ((nat_eq 73 x && g) || false)))))))
has_seven x a b c d e f g =
    has_next x 87 a _ _ (has_next x 82 b _ _ (has_next x 69 c _ _ (has_next x 70 d _ _ (has_next x 67 e _ _ (has_next x 76 f _ _ (has_next x 73 g false [] refl))))))

has_dash : (c : ℕ) (xs : List ℕ) → nat_eq 45 c ≡ false → has c (or_dash xs) ≡ has c xs
has_dash c [] differs = rw differs refl
has_dash c (x ∷ xs) differs = refl

abbrev as_number : Bool → ℕ
as_number true = 1
as_number false = 0

-- the flags whose letters these are
abbrev flags_in : List ℕ → ℕ
flags_in word =
    as_number (has 87 word) + 2 * as_number (has 82 word) + 4 * as_number (has 69 word) + 8 * as_number (has 70 word)
    + 16 * as_number (has 67 word) + 32 * as_number (has 76 word) + 64 * as_number (has 73 word)

number_of_bit : (x : ℕ) → x < 2 → as_number (eqb x 1) ≡ x
number_of_bit zero small = refl
number_of_bit (suc zero) small = refl
number_of_bit (suc (suc x)) small = absurd (omega arith)

flags_of_seven : (a b c d e f g : Bool) → flags_in (or_dash (seven a b c d e f g))
    ≡ as_number a + 2 * as_number b + 4 * as_number c + 8 * as_number d + 16 * as_number e + 32 * as_number f + 64 * as_number g
flags_of_seven a b c d e f g =
    let xs = seven a b c d e f g in
    rw (
      has_dash 87 xs refl ∙ has_seven 87 a b c d e f g ∙ or_false a,
      has_dash 82 xs refl ∙ has_seven 82 a b c d e f g ∙ or_false b,
      has_dash 69 xs refl ∙ has_seven 69 a b c d e f g ∙ or_false c,
      has_dash 70 xs refl ∙ has_seven 70 a b c d e f g ∙ or_false d,
      has_dash 67 xs refl ∙ has_seven 67 a b c d e f g ∙ or_false e,
      has_dash 76 xs refl ∙ has_seven 76 a b c d e f g ∙ or_false f,
      has_dash 73 xs refl ∙ has_seven 73 a b c d e f g ∙ or_false g,
    ) refl

whole_of_bits : (n : ℕ) → n < 128 → n / 2 ^ 0 % 2 + 2 * (n / 2 ^ 1 % 2) + 4 * (n / 2 ^ 2 % 2) + 8 * (n / 2 ^ 3 % 2) + 16 * (n / 2 ^ 4 % 2) + 32 * (n / 2 ^ 5 % 2) + 64 * (n / 2 ^ 6 % 2) ≡ n
whole_of_bits n small = omega arith

flags_back : (flags : ℕ) → flags < 128 → flags_in (or_dash (flag_letters flags)) ≡ flags
flags_back flags small =
    flags_of_seven (is_set Writable flags) (is_set Rest flags) (is_set Ended flags) (is_set Fault flags) (is_set Closed flags) (is_set Listen flags) (is_set Idle flags)
    ∙ (rw (
      number_of_bit (flags / 2 ^ 0 % 2) (omega arith),
      number_of_bit (flags / 2 ^ 1 % 2) (omega arith),
      number_of_bit (flags / 2 ^ 2 % 2) (omega arith),
      number_of_bit (flags / 2 ^ 3 % 2) (omega arith),
      number_of_bit (flags / 2 ^ 4 % 2) (omega arith),
      number_of_bit (flags / 2 ^ 5 % 2) (omega arith),
      number_of_bit (flags / 2 ^ 6 % 2) (omega arith),
    ) (whole_of_bits flags small))

letters_above : (b : Bool) (l : ℕ) (xs : List ℕ) → nat_lt 32 l ≡ true → list_all (nat_lt 32) xs ≡ true → list_all (nat_lt 32) (where_set b l ++ xs) ≡ true
letters_above true l xs h k = rw h k
letters_above false l xs h k = k

dash_above : (xs : List ℕ) → list_all (nat_lt 32) xs ≡ true → list_all (nat_lt 32) (or_dash xs) ≡ true
dash_above [] h = refl
dash_above (x ∷ xs) h = h

-- the letters of flags are above the space
pub flags_above : (flags : ℕ) → list_all (nat_lt 32) (or_dash (flag_letters flags)) ≡ true
flags_above flags =
    dash_above (flag_letters flags)
    (letters_above (is_set Writable flags) 87 _ refl (letters_above (is_set Rest flags) 82 _ refl (letters_above (is_set Ended flags) 69 _ refl
    (letters_above (is_set Fault flags) 70 _ refl (letters_above (is_set Closed flags) 67 _ refl (letters_above (is_set Listen flags) 76 _ refl
    (letters_above (is_set Idle flags) 73 [] refl refl)))))))

-- the octets of a field's letters or word are above the space
abbrev pub is_plain : Field → Bool
is_plain (Word word) = list_all (nat_lt 32) word
is_plain (Number n) = true
is_plain (Name letters n) = nat_eq (length letters) 1 && list_all (nat_lt 32) letters
is_plain (Address ip) = true
is_plain (Hex octets) = true
is_plain (Flags flags) = true
is_plain (Share free all) = true

-- a field of this sort, by its text
abbrev pub field_as : Sort → List ℕ → Field
field_as AWord word = Word word
field_as ANumber word = Number (number_in word)
field_as AName word = Name (take 1 word) (number_in (drop 1 word))
field_as AnAddress word = Address (ip_in word)
field_as AHex word = Hex (octets_in (decode_of word))
field_as TheFlags word = Flags (flags_in word)
field_as AShare word = Share (number_in (before 47 word)) (number_in (after 47 word))

name_back : (letters : List ℕ) (n : ℕ) → nat_eq (length letters) 1 ≡ true → n < 2 ^ 64 → field_as AName (letters ++ decimal n) ≡ Name letters n
name_back [] n one small = absurd (let no : false ≡ true = one in cc)
name_back (x ∷ []) n one small = ap (λ m. Name (x ∷ []) m) (number_back n small)
name_back (x ∷ y ∷ letters) n one small = absurd (let no : length (x ∷ y ∷ letters) ≡ 1 = grind (arith, one) in omega arith)

share_back : (free all : ℕ) → free < 2 ^ 32 → all < 2 ^ 32 → field_as AShare (decimal free ++ codes "/" ++ decimal all) ≡ Share free all
share_back free all hf ha =
    let m = decimal-misses 47 free (omega arith) (omega arith) in
    let parts : decimal free ++ codes "/" ++ decimal all ≡ decimal free ++ 47 ∷ decimal all = append_assoc (decimal free) (codes "/") (decimal all) in
    ap (field_as AShare) parts
    ∙ (rw (
      before_cut 47 (decimal free) (decimal all) m,
      after_cut 47 (decimal free) (decimal all) m,
      number_back free (omega arith),
      number_back all (omega arith),
    ) refl)

-- a field is what its text says
field_back : (f : Field) → is_plain f ≡ true → IsHeld f → field_as (sort_of f) (field_text f) ≡ f
field_back (Word word) plain h = refl
field_back (Number n) plain h = ap Number (number_back n (omega arith))
field_back (Name letters n) plain h = name_back letters n (and_parts (nat_eq (length letters) 1) (list_all (nat_lt 32) letters) plain).0 (omega arith)
field_back (Address ip) plain h = ap Address (ip_back ip h)
field_back (Hex octets) plain h = ap (λ r. Hex (octets_in r)) (decode_of-encode_lower octets h)
field_back (Flags flags) plain h = ap Flags (flags_back flags h)
field_back (Share free all) plain h = share_back free all h.0 h.1

-- fields of these sorts, by their texts, whatever stands behind
abbrev pub fields_as : List Sort → List (List ℕ) → List Field
fields_as [] words = []
fields_as (sort ∷ sorts) [] = []
fields_as (sort ∷ sorts) (word ∷ words) = field_as sort word ∷ fields_as sorts words

abbrev pub are_plain : List Field → Bool
are_plain fs = list_all is_plain fs

pub fields_back : (fs : List Field) (r : List (List ℕ)) → are_plain fs ≡ true → AreHeld fs → fields_as (map sort_of fs) (map field_text fs ++ r) ≡ fs
fields_back [] r plain h = refl
fields_back (f ∷ fs) r plain h =
    let parts = and_parts (is_plain f) (are_plain fs) plain in
    let one : field_as (sort_of f) (field_text f) ≡ f = field_back f parts.0 (All-head IsHeld f fs h) in
    let more : fields_as (map sort_of fs) (map field_text fs ++ r) ≡ fs = fields_back fs r parts.1 (All-tail IsHeld f fs h) in
    cc
