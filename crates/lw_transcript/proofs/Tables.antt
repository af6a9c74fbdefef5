-- Values are read back from the words of their fields: the first word tells the sorts of the fields.
use Rattle.std.proofs.Common.{◌≡◌, ℕ, zero, suc, Bool, true, false, ◌&&◌, nat_eq, List, [], ◌∷◌, ◌++◌, map, refl, sym, ap, ◌∙◌, if◌then◌else◌}
use Rattle.lw_base.specs.declared.addresses.Ip.{Ip}
use Rattle.lw_base.specs.declared.addresses.Port.{Port}
use Rattle.lw_transcript.specs.Fields.{Field, Word, Number, Name, Address, Hex, Flags, Share, field_text}
use Rattle.lw_transcript.specs.Laws.{AreHeld}
use Rattle.lw_transcript.proofs.FieldsBack.{Sort, are_plain, fields_as, fields_back, sort_of}

-- the same text
abbrev pub same_text : List ℕ → List ℕ → Bool
same_text [] [] = true
same_text [] (y ∷ ys) = false
same_text (x ∷ xs) [] = false
same_text (x ∷ xs) (y ∷ ys) = nat_eq x y && same_text xs ys

-- the n-th word, and none behind the last
abbrev pub word_in : ℕ → List (List ℕ) → List ℕ
word_in n [] = []
word_in zero (w ∷ ws) = w
word_in (suc n) (w ∷ ws) = word_in n ws

-- the n-th field, and an empty word behind the last
abbrev pub field_in : ℕ → List Field → Field
field_in n [] = Word []
field_in zero (f ∷ fs) = f
field_in (suc n) (f ∷ fs) = field_in n fs

abbrev text_in : Field → List ℕ
text_in (Word word) = word
text_in (Number n) = []
text_in (Name letters n) = letters
text_in (Address ip) = []
text_in (Hex octets) = octets
text_in (Flags flags) = []
text_in (Share free all) = []

abbrev number_of : Field → ℕ
number_of (Word word) = 0
number_of (Number n) = n
number_of (Name letters n) = n
number_of (Address ip) = 0
number_of (Hex octets) = 0
number_of (Flags flags) = flags
number_of (Share free all) = free

abbrev ip_of : Field → Ip
ip_of (Word word) = record { 0 = 0 }
ip_of (Number n) = record { 0 = 0 }
ip_of (Name letters n) = record { 0 = 0 }
ip_of (Address ip) = ip
ip_of (Hex octets) = record { 0 = 0 }
ip_of (Flags flags) = record { 0 = 0 }
ip_of (Share free all) = record { 0 = 0 }

-- the word, the letters or the octets of the n-th field
abbrev pub text_at : ℕ → List Field → List ℕ
text_at n fs = text_in (field_in n fs)

-- its number
abbrev pub number_at : ℕ → List Field → ℕ
number_at n fs = number_of (field_in n fs)

-- its address
abbrev pub ip_at : ℕ → List Field → Ip
ip_at n fs = ip_of (field_in n fs)

-- its number as a port
abbrev pub port_at : ℕ → List Field → Port
port_at n fs = record { 0 = number_at n fs }

-- how values are read whose fields begin with this word: the sorts of their fields, by the words, and the value, by the fields
pub record Row (V : Type 0) : Type 0 where
  pub word : List ℕ
  pub sorts : List (List ℕ) → List Sort
  pub value : List Field → V

-- the row of this word, or another
abbrev pub row_of : {V : Type 0} → Row V → List (Row V) → List ℕ → Row V
row_of none [] word = none
row_of none (row ∷ rows) word = if same_text row.word word then row else row_of none rows word

-- the value of the fields with these words, by this row
abbrev pub by_row : {V : Type 0} → Row V → List (List ℕ) → V
by_row row words = row.value (fields_as (row.sorts words) words)

-- by the row of the first word
abbrev pub read_by : {V : Type 0} → Row V → List (Row V) → List (List ℕ) → V
read_by none rows words = by_row (row_of none rows (word_in 0 words)) words

-- the value of fields that are those of the row
pub by_row_back : {V : Type 0} (row : Row V) (fs : List Field) (r : List (List ℕ)) (v : V) → row.sorts (map field_text fs ++ r) ≡ map sort_of fs
    → are_plain fs ≡ true → AreHeld fs → row.value fs ≡ v → by_row row (map field_text fs ++ r) ≡ v
by_row_back row fs r v sorts plain h is =
    ap (λ (s : List Sort). row.value (fields_as s (map field_text fs ++ r))) sorts ∙ ap row.value (fields_back fs r plain h) ∙ is

-- by the first word
pub read_back : {V : Type 0} (none : Row V) (rows : List (Row V)) (row : Row V) (fs : List Field) (r : List (List ℕ)) (v : V)
    → row_of none rows (word_in 0 (map field_text fs ++ r)) ≡ row → row.sorts (map field_text fs ++ r) ≡ map sort_of fs
    → are_plain fs ≡ true → AreHeld fs → row.value fs ≡ v → read_by none rows (map field_text fs ++ r) ≡ v
read_back none rows row fs r v found sorts plain h is =
    ap (λ (x : Row _). by_row x (map field_text fs ++ r)) found ∙ by_row_back row fs r v sorts plain h is
