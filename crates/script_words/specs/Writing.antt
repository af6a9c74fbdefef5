-- A call's name and the words behind it.
use Rattle.std.specs.Prelude.{ℕ, List, [], ◌∷◌, ◌++◌}
use Rattle.call_types.specs.declared.call.Call.{Call}
use Rattle.script_words.specs.Spelling.{call_words}

-- the first word, where there is one
abbrev pub first_word : List (List ℕ) → List ℕ
first_word [] = []
first_word (word ∷ words) = word

-- the words behind the first
abbrev pub later_words : List (List ℕ) → List (List ℕ)
later_words [] = []
later_words (word ∷ words) = words

-- a call's name
abbrev pub name_of : Call → List ℕ
name_of call = first_word (call_words call)

-- the words behind a call's name
abbrev pub arguments_of : Call → List (List ℕ)
arguments_of call = later_words (call_words call)

-- a text with more words, a space before each
abbrev pub onto : List ℕ → List (List ℕ) → List ℕ
onto text [] = text
onto text (word ∷ words) = onto (text ++ 32 ∷ word) words
