-- A line as its words.
use Rattle.std.specs.Prelude.{ℕ, ◌==◌, List, [], Option, Some, None}
use Rattle.std.specs.List.{join_with_byte, slice_split}
use denote.Ref.{Bor}
use Rattle.script_words.specs.declared.words.Words.{Words}

-- words with one space between each two
abbrev pub spaced : List (List ℕ) → List ℕ
spaced words = join_with_byte 32 words

-- the pieces of octets between those that are c
abbrev pub pieces : ℕ → List ℕ → List (List ℕ)
pieces c octets = slice_split (λ b. b == c) octets

-- the words of a text that may be missing
abbrev pub words_in : Option (Bor (List ℕ)) → List (List ℕ)
words_in None = []
words_in (Some text) = pieces 32 text.now

-- the words that are still to be read
abbrev pub left : Words → List (List ℕ)
left words = words_in words.rest
