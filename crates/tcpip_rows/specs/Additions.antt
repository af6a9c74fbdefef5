-- Additions to a number.
use Rattle.std.specs.Prelude.{◌≡◌, ℕ, ◌+◌, ◌%◌, ◌^◌}
use Rattle.tcpip_rows.specs.declared.counter.Addition.{Addition}

-- the amount was added, modulo 2^64
abbrev pub IsAddition : ℕ → Addition → ℕ → Type 0
IsAddition before e after = after ≡ (before + e.amount) % 2 ^ 64
