-- The signals of a script's threads, by their numbers.
use Rattle.std.specs.Prelude.{ℕ, ◌+◌, ◌-◌, ◌^◌, List, min, replicate, slice_index, slice_set}

-- how often each came
abbrev pub no_signals : List ℕ
no_signals = replicate 16 0

-- how often a signal came
abbrev pub count : List ℕ → ℕ → ℕ
count s signal = slice_index s signal

-- one that came once more; a count stands still at its last value
abbrev pub raised : List ℕ → ℕ → List ℕ
raised s signal = slice_set s signal (min (count s signal + 1) (2 ^ 32 - 1))
