-- The connections of a stack, by their numbers.
use Rattle.std.specs.Prelude.{ℕ, ◌+◌, ◌-◌, ◌==◌, ◌&&◌, nat_lt, if◌then◌else◌, List, [], ◌∷◌, ◌++◌, length, Option, Some, None, is_some, option_and_then, option_map, count_by, slice_get, slice_set, bit_or, bit_and}
use Rattle.lw_base.specs.declared.errors.Err.{Err}
use Rattle.lw_base.specs.declared.event_word.Flag.{Flag}
use Rattle.lw_base.specs.declared.event_word.Flag.TheVariants.{Writable, Idle}
use Rattle.lw_base.specs.EventWord.{bit_of}
use Rattle.lw_events.specs.declared.event.Proto.{Proto}
use Rattle.lw_events.specs.declared.event.Proto.TheVariants.{Tcp, Udp}
use Rattle.lw_conn.specs.declared.connections.Connection.{Connection}

-- all that were made, by their numbers from 1; one that was closed is none
abbrev pub Connections : Type 0
Connections = List (Option Connection)

-- how many are live
abbrev pub live_count : Connections → ℕ
live_count cs = count_by is_some cs

-- a live connection by its number
abbrev pub connection : Connections → ℕ → Option Connection
connection cs conn = if conn == 0 then None else option_and_then (λ c. c) (slice_get cs (conn - 1))

-- the number of the next connection, where fewer than `most` are live and a number of the 4,096 is left
abbrev pub next_number : ℕ → Connections → Option ℕ
next_number most cs = if nat_lt (live_count cs) most && nat_lt (length cs) 4096 then Some (length cs + 1) else None

-- the flag with which a connection begins
abbrev pub first_flag : Proto → Flag
first_flag Udp = Writable
first_flag Tcp = Idle

-- a new connection
abbrev pub fresh : Proto → Connection
fresh proto = record { proto = proto; flags = bit_of (first_flag proto); fault = None; posted = 0 }

-- one connection more
abbrev pub added : Connections → Proto → Connections
added cs proto = cs ++ Some (fresh proto) ∷ []

-- one connection less
abbrev pub closed : Connections → ℕ → Connections
closed cs conn = slice_set cs (conn - 1) None

-- one connection changed
abbrev pub changed : Connections → ℕ → (Connection → Connection) → Connections
changed cs conn f = slice_set cs (conn - 1) (option_map f (connection cs conn))

-- a connection with a flag
abbrev pub with_flag : Flag → Connection → Connection
with_flag flag c = record c { flags = bit_or c.flags (bit_of flag) }

-- a connection without a flag
abbrev pub without_flag : Flag → Connection → Connection
without_flag flag c = record c { flags = bit_and c.flags (255 - bit_of flag) }

-- a connection with a fault
abbrev pub with_fault : Err → Connection → Connection
with_fault fault c = record c { fault = Some fault }

-- a connection to which one item more was posted
abbrev pub with_post : Connection → Connection
with_post c = record c { posted = c.posted + 1 }
