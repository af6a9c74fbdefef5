-- The flags of an event word as bits.
use Rattle.std.specs.Prelude.{ℕ, ◌^◌, Bool, eqb}
use Rattle.std.specs.Int.{bit_at}
use Rattle.lw_base.specs.declared.event_word.Flag.{Flag}
use Rattle.lw_base.specs.declared.event_word.Flag.TheVariants.{Writable, Rest, Ended, Fault, Closed, Listen, Idle}

-- the place of a flag's bit, from the lowest
abbrev pub place_of : Flag → ℕ
place_of Writable = 0
place_of Rest = 1
place_of Ended = 2
place_of Fault = 3
place_of Closed = 4
place_of Listen = 5
place_of Idle = 6

-- a flag's bit alone
abbrev pub bit_of : Flag → ℕ
bit_of f = 2 ^ place_of f

-- whether the flag stands among these
abbrev pub is_set : Flag → ℕ → Bool
is_set f flags = eqb (bit_at flags (place_of f)) 1
