-- The fields that the printer is given.
use Rattle.std.specs.Prelude.{ℕ, ◌+◌, Bool, true, false, List, [], ◌∷◌, length, map}
use Rattle.lw_transcript.specs.Fields as spec
use Rattle.lw_transcript.specs.declared.fields.Field.{Field}
use Rattle.lw_transcript.specs.declared.fields.Field.TheVariants.{Word, Number, Name, Place, Address, Hex, Flags, Share}

-- the field that the printer's value stands for
abbrev pub field_of : Field → spec.Field
field_of (Word word) = spec.Word word.now
field_of (Number n) = spec.Number n
field_of (Name letters n) = spec.Name letters.now n
field_of (Place from octets) = spec.Number (from + length octets.now)
field_of (Address ip) = spec.Address ip
field_of (Hex octets) = spec.Hex octets.now
field_of (Flags flags) = spec.Flags flags
field_of (Share free all) = spec.Share free all

-- those of a list
abbrev pub fields_of : List Field → List spec.Field
fields_of fs = map field_of fs

-- whether a text is empty
abbrev pub is_nothing : List ℕ → Bool
is_nothing [] = true
is_nothing (x ∷ xs) = false
