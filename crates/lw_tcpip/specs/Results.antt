-- Counts of events.
use Rattle.std.specs.Prelude.{ℕ, ◌+◌, min, Result, Ok, Err}

-- one more, up to the last number of 64 bits
abbrev pub raised : ℕ → ℕ
raised n = min (n + 1) 18446744073709551615

-- the number of entries after an event that was made, or not
abbrev pub counted : {R F : Type 0} → ℕ → Result R F → ℕ
counted n (Ok r) = raised n
counted n (Err e) = n
