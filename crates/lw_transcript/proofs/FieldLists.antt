-- Lists of fields, as the printer is given them.
use Rattle.std.proofs.Common.{ℕ, ◌≡◌, ◌+◌, ◌<◌, Bool, true, false, not, ◌||◌, List, [], ◌∷◌, ◌++◌, length, map, take, get_or, codes, refl, sym, ap, ◌∙◌, arith, append_assoc, append-nil}
use Rattle.std.specs.List.{flat_map}
use Rattle.std.proofs.lemmas.List.{get_or_default}
use Rattle.lw_outside.specs.Sinks.{SinkSeen}
use Rattle.lw_transcript.specs.Page.{PageSeen, Prints}
use Rattle.lw_transcript.proofs.Printing.{Prints-each}
use Rattle.std.proofs.lemmas.Grind.{flat_map-append}
use Rattle.call_types.specs.declared.call.SelectItem.{SelectItem}
use Rattle.lw_transcript.specs.declared.fields.Field.{Field as Given}
use Rattle.lw_transcript.specs.Fields.{Field, Name, behind_text, field_text, line, or_dash, spaced, where_set}
use Rattle.lw_transcript.specs.CallLines.{test_field, test_letter}
use Rattle.lw_transcript.specs.Printed.{field_of, fields_of, is_nothing}

-- a field that the printer is given, behind others
abbrev pub given_text : Given → List ℕ
given_text f = behind_text (field_of f)

pub given_texts : (fs : List Given) → flat_map given_text fs ≡ flat_map behind_text (fields_of fs)
given_texts [] = refl
given_texts (f ∷ fs) = ap (λ (t : List ℕ). given_text f ++ t) (given_texts fs)

-- an empty text
pub dash_none : (xs : List ℕ) → is_nothing xs ≡ true → or_dash xs ≡ codes "-"
dash_none [] e = refl
dash_none (x ∷ xs) e = absurd (let no : false ≡ true = e in cc)

-- another
pub dash_some : (xs : List ℕ) → is_nothing xs ≡ false → or_dash xs ≡ xs
dash_some [] e = absurd (let no : true ≡ false = e in cc)
dash_some (x ∷ xs) e = refl

-- a test, behind others
abbrev pub test_behind : SelectItem → List ℕ
test_behind item = behind_text (test_field item)

-- as the printer is given it
pub test_shown : (item : SelectItem) (letter : List ℕ) → letter ≡ test_letter item.test → flat_map behind_text (Name letter item.var ∷ []) ≡ test_behind item
test_shown item letter is = append-nil (behind_text (Name letter item.var)) ∙ ap (λ (x : List ℕ). behind_text (Name x item.var)) is

-- tests, behind others
pub tests_texts : (items : List SelectItem) → flat_map test_behind items ≡ flat_map behind_text (map test_field items)
tests_texts [] = refl
tests_texts (x ∷ xs) = ap (λ (t : List ℕ). test_behind x ++ t) (tests_texts xs)

seven_parts : (a b c d e f g : List ℕ) → (((((a ++ b) ++ c) ++ d) ++ e) ++ f) ++ g ≡ a ++ (b ++ (c ++ (d ++ (e ++ (f ++ (g ++ []))))))
seven_parts a b c d e f g = simp (append_assoc, append-nil)

-- the letters of seven flags, one behind the other
pub seven_letters : (a b c d e f g : Bool)
    → (((((where_set a 87 ++ where_set b 82) ++ where_set c 69) ++ where_set d 70) ++ where_set e 67) ++ where_set f 76) ++ where_set g 73
    ≡ where_set a 87 ++ (where_set b 82 ++ (where_set c 69 ++ (where_set d 70 ++ (where_set e 67 ++ (where_set f 76 ++ (where_set g 73 ++ []))))))
seven_letters a b c d e f g =
    seven_parts (where_set a 87) (where_set b 82) (where_set c 69) (where_set d 70) (where_set e 67) (where_set f 76) (where_set g 73)

-- no letter stands where no flag does
pub no_letters : (a b c d e f g : Bool)
    → not ((a || b || c) || d || (e || f || g))
    ≡ is_nothing (where_set a 87 ++ (where_set b 82 ++ (where_set c 69 ++ (where_set d 70 ++ (where_set e 67 ++ (where_set f 76 ++ (where_set g 73 ++ [])))))))
no_letters true b c d e f g = refl
no_letters false true c d e f g = refl
no_letters false false true d e f g = refl
no_letters false false false true e f g = refl
no_letters false false false false true f g = refl
no_letters false false false false false true g = refl
no_letters false false false false false false true = refl
no_letters false false false false false false false = refl

-- one field more is printed behind others
pub Prints-field : {r s t : SinkSeen} {a b c : PageSeen} (fs : List Given) (i : ℕ) (d : Given) → i < length fs
    → Prints r s a b (flat_map given_text (take i fs)) → Prints s t b c (given_text (get_or fs i d))
    → Prints r t a c (flat_map given_text (take (i + 1) fs))
Prints-field fs i d inside first second =
    Prints-each given_text fs i (get_or fs i d) inside (get_or_default fs i d (get_or fs i d) inside) first second
