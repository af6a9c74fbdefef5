use Rattle.std.specs.Prelude.{ℕ, ◌==◌, ◌&&◌, not, Bool, List, [], ◌∷◌, ◌++◌, Option, Some, None, map, filter, find, if◌then◌else◌, option_and_then}
use Rattle.lw_base.specs.declared.addresses.Ip.{Ip}
use Rattle.lw_base.specs.declared.addresses.Port.{Port}
use Rattle.lw_udp.specs.declared.ends.UdpEnd.{UdpEnd}

-- What a table of UDP ends is, and what its calls make of it.

-- an address and a port there
abbrev pub Socket : Type 0
Socket = Ip × Port

-- both are the same
abbrev pub same_socket : Socket → Socket → Bool
same_socket a b = (a.0.0 == b.0.0) && (a.1.0 == b.1.0)

-- a table: its ends, in the order of their making, and the last ephemeral port that was given, 65,535 at first
pub record Table : Type 0 where
  pub ends : List UdpEnd
  pub given : Port

-- the table at first
abbrev pub empty : Table
empty = record { ends = []; given = record { 0 = 65535 } }

-- an end of this connection
abbrev pub is_of : ℕ → UdpEnd → Bool
is_of conn e = e.conn == conn

-- the end of a connection, if it has one
abbrev pub end_of : List UdpEnd → ℕ → Option UdpEnd
end_of ends conn = find (is_of conn) ends

-- what a connection is bound to
abbrev pub local_of : List UdpEnd → ℕ → Option Socket
local_of ends conn = option_and_then (λ e. e.local) (end_of ends conn)

-- the peer that a connection is connected to
abbrev pub remote_of : List UdpEnd → ℕ → Option Socket
remote_of ends conn = option_and_then (λ e. e.remote) (end_of ends conn)

-- a new end is neither bound nor connected
abbrev pub unbound : ℕ → UdpEnd
unbound conn = record { conn = conn; local = None; remote = None }

-- an end that is bound to this
abbrev pub with_local : Socket → UdpEnd → UdpEnd
with_local to e = record e { local = Some to }

-- an end that is connected to this peer
abbrev pub with_remote : Socket → UdpEnd → UdpEnd
with_remote to e = record e { remote = Some to }

-- the ends with that of a connection changed
abbrev pub changed : List UdpEnd → ℕ → (UdpEnd → UdpEnd) → List UdpEnd
changed ends conn f = map (λ e. if is_of conn e then f e else e) ends

-- a table with one end more
abbrev pub added : Table → ℕ → Table
added t conn = record t { ends = t.ends ++ unbound conn ∷ [] }

-- a table without the end of a connection
abbrev pub removed : Table → ℕ → Table
removed t conn = record t { ends = filter (λ e. not (is_of conn e)) t.ends }
