-- The frames that were sent by an interface.
use Rattle.std.specs.Prelude.{ℕ, List, ◌^◌, ◌-◌, length}

-- how many frames may still be sent, before their count stands at its last value
abbrev pub frames_left : List (List ℕ) → ℕ
frames_left sent = 2 ^ 32 - 1 - length sent
