-- The descriptors of a stack, by their numbers.
use Rattle.std.specs.Prelude.{ℕ, Bool, false, List, Option, Some, None, is_some, option_and_then, option_map, position, replicate, slice_get, slice_set}
use Rattle.std.specs.Option.{is_none}
use Rattle.lw_events.specs.declared.event.FdOption.{FdOption}
use Rattle.lw_events.specs.declared.event.FdOption.TheVariants.{NonBlock, Timeout}
use Rattle.lw_conn.specs.declared.descriptors.Descriptor.{Descriptor}

-- all descriptors, by their numbers from 0; a free one is none
abbrev pub Descriptors : Type 0
Descriptors = List (Option Descriptor)

-- so many free ones
abbrev pub all_free : ℕ → Descriptors
all_free n = replicate n None

-- what a descriptor is of, where it isn't free
abbrev pub descriptor : Descriptors → ℕ → Option Descriptor
descriptor ds fd = option_and_then (λ d. d) (slice_get ds fd)

-- the lowest free one
abbrev pub lowest_free : Descriptors → Option ℕ
lowest_free ds = position is_none ds

-- a free one opened for a connection: calls on it wait, without an end
abbrev pub opened : Descriptors → ℕ → ℕ → Bool → Descriptors
opened ds fd conn udp = slice_set ds fd (Some (record { conn = conn; udp = udp; nonblock = false; timeout = 0 }))

-- one that was told an option
abbrev pub with_option : FdOption → Descriptor → Descriptor
with_option (NonBlock on) d = record d { nonblock = on }
with_option (Timeout ticks) d = record d { timeout = ticks }

-- the descriptors, one of which was told an option
abbrev pub set : Descriptors → ℕ → FdOption → Descriptors
set ds fd option = slice_set ds fd (option_map (with_option option) (descriptor ds fd))

-- one that was freed
abbrev pub closed : Descriptors → ℕ → Descriptors
closed ds fd = slice_set ds fd None
