-- The fields of a line, and their texts.
use Rattle.std.specs.Prelude.{ℕ, ◌/◌, ◌%◌, ◌^◌, Bool, true, false, List, [], ◌∷◌, ◌++◌, codes, decimal}
use Rattle.std.specs.List.{flat_map}
use Rattle.hex.specs.Hex.{encode_lower}
use Rattle.lw_base.specs.declared.addresses.Ip.{Ip}
use Rattle.lw_base.specs.declared.event_word.Flag.{Flag}
use Rattle.lw_base.specs.declared.event_word.Flag.TheVariants.{Writable, Rest, Ended, Fault, Closed, Listen, Idle}
use Rattle.lw_base.specs.EventWord.{is_set}

-- a field of a line: a word; a number; a number behind letters, as `v0`; an address; octets in hexadecimal; the flags of an event
-- word; or how many of so many are free
pub data Field : Type 0 where
  Word : List ℕ → Field
  Number : ℕ → Field
  Name : List ℕ → ℕ → Field
  Address : Ip → Field
  Hex : List ℕ → Field
  Flags : ℕ → Field
  Share : ℕ → ℕ → Field

-- an address as four decimal numbers with dots between, the highest octet first
abbrev pub ip_text : Ip → List ℕ
ip_text ip =
    decimal (ip.0 / 2 ^ 24) ++ codes "." ++ decimal (ip.0 / 2 ^ 16 % 256) ++ codes "."
    ++ decimal (ip.0 / 2 ^ 8 % 256) ++ codes "." ++ decimal (ip.0 % 256)

-- the letter of a flag
abbrev pub letter_of : Flag → ℕ
letter_of Writable = 87
letter_of Rest = 82
letter_of Ended = 69
letter_of Fault = 70
letter_of Closed = 67
letter_of Listen = 76
letter_of Idle = 73

-- an octet, where it is to stand
abbrev pub where_set : Bool → ℕ → List ℕ
where_set true letter = letter ∷ []
where_set false letter = []

-- the letters WREFCLI of the flags that stand, in this order
abbrev pub flag_letters : ℕ → List ℕ
flag_letters flags =
    flat_map (λ f. where_set (is_set f flags) (letter_of f)) (Writable ∷ Rest ∷ Ended ∷ Fault ∷ Closed ∷ Listen ∷ Idle ∷ [])

-- a text, and `-` for none
abbrev pub or_dash : List ℕ → List ℕ
or_dash [] = codes "-"
or_dash (x ∷ xs) = x ∷ xs

-- a field's text: numbers in decimal without leading zeros, octets in lower case
abbrev pub field_text : Field → List ℕ
field_text (Word word) = word
field_text (Number n) = decimal n
field_text (Name letters n) = letters ++ decimal n
field_text (Address ip) = ip_text ip
field_text (Hex octets) = encode_lower octets
field_text (Flags flags) = or_dash (flag_letters flags)
field_text (Share free all) = decimal free ++ codes "/" ++ decimal all

-- a field behind others: one space, and its text
abbrev pub behind_text : Field → List ℕ
behind_text f = codes " " ++ field_text f

-- fields one space apart
abbrev pub spaced : List Field → List ℕ
spaced [] = []
spaced (f ∷ fs) = field_text f ++ flat_map behind_text fs

-- a line: its fields, one space apart, and a line feed
abbrev pub line : List Field → List ℕ
line fs = spaced fs ++ codes "\n"
