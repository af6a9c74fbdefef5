use Rattle.std.specs.Prelude.{ℕ, ◌+◌, ◌%◌, ◌==◌, ◌&&◌, ◌||◌, not, Bool, false, List, Option, Some, None, is_some, Result, Ok, Err, map, find, if◌then◌else◌}
use Rattle.std.specs.List.{list_any, range_with_len}
use Rattle.std.specs.Option.{option_map_or}
use Rattle.lw_base.specs.declared.addresses.Ip.{Ip}
use Rattle.lw_base.specs.declared.addresses.Port.{Port}
use Rattle.lw_base.specs.declared.errors.Err.{Err as Code}
use Rattle.lw_base.specs.declared.errors.Err.TheVariants.{Val, Buf, Use}
use Rattle.lw_udp.specs.declared.ends.UdpEnd.{UdpEnd}
use Rattle.lw_udp.specs.Ends.{Socket, Table, local_of, with_local, with_remote, changed}

-- what f makes of a value, and a refusal as it is
abbrev pub result_map : {A B : Type 0} → (A → B) → Result A Code → Result B Code
result_map f (Ok x) = Ok (f x)
result_map f (Err fault) = Err fault

-- Ephemeral ports

-- the dynamic ports are 49,152 to 65,535 (RFC 6335, section 6): the k-th after a port, from 0, in rising order, with
-- 49,152 after 65,535
abbrev pub port_after : Port → ℕ → Port
port_after given k = record { 0 = 49152 + (given.0 + 1 + k) % 16384 }

-- an end has a port
abbrev pub has_port : Port → UdpEnd → Bool
has_port port e = option_map_or (λ local. local.1.0 == port.0) e.local false

-- a port is in use where an end has it
abbrev pub is_used : List UdpEnd → Port → Bool
is_used ends port = list_any (has_port port) ends

-- the first of the n ports after one that isn't in use
unfoldable pub first_free : List UdpEnd → Port → ℕ → Option Port
first_free ends given n = find (λ port. not (is_used ends port)) (map (port_after given) (range_with_len 0 n))

-- the ephemeral port that comes next: the first of all, after the last one given, that isn't in use
abbrev pub free_port : Table → Option Port
free_port t = first_free t.ends t.given 16384

-- What Bind and Connect answer, and the table after them

-- two sockets clash where their ports are the same, and their addresses too or one of them is 0.0.0.0
abbrev pub clash : Socket → Socket → Bool
clash a b = (a.1.0 == b.1.0) && ((a.0.0 == 0) || (b.0.0 == 0) || (a.0.0 == b.0.0))

-- a socket clashes with that of an end
abbrev pub clashes : Socket → UdpEnd → Bool
clashes to e = option_map_or (λ local. clash local to) e.local false

-- the port that is asked for: port 0 asks for the ephemeral port that comes next
abbrev pub wanted : Table → Port → Option Port
wanted t port = if port.0 == 0 then free_port t else Some port

-- a port, or USE where it is taken
abbrev pub unless_taken : Bool → Port → Result Port Code
unless_taken taken port = if taken then Err Use else Ok port

-- the port that may be given at an address: BUF where there is none, USE where its socket clashes with one in use
abbrev pub granted : List UdpEnd → Ip → Option Port → Result Port Code
granted ends ip None = Err Buf
granted ends ip (Some port) = unless_taken (list_any (clashes (ip, port)) ends) port

-- the port that Bind gives, or its refusal: VAL where the connection is bound or the address is neither 0.0.0.0 nor
-- the own, then BUF, then USE
abbrev pub bind_port : Table → ℕ → Ip → Ip → Port → Result Port Code
bind_port t conn own ip port =
    if is_some (local_of t.ends conn) then Err Val
    else if not ((ip.0 == 0) || (ip.0 == own.0)) then Err Val
    else granted t.ends ip (wanted t port)

-- the table after a port was given to a connection; only a port that wasn't asked for by its number is the last one given
abbrev pub with_port : Table → ℕ → Ip → Port → Port → Table
with_port t conn ip asked port =
    record { ends = changed t.ends conn (with_local (ip, port)); given = (if asked.0 == 0 then port else t.given) }

-- the table after Bind, or its refusal
abbrev pub bind : Table → ℕ → Ip → Ip → Port → Result Table Code
bind t conn own ip port = result_map (λ p. with_port t conn ip port p) (bind_port t conn own ip port)

-- the table after an ephemeral port was given to a connection, at 0.0.0.0
abbrev pub with_ephemeral : Table → ℕ → Port → Table
with_ephemeral t conn port = with_port t conn (record { 0 = 0 }) (record { 0 = 0 }) port

-- the table in which a connection is bound, for one that is bound and by the port that comes next: one that isn't is
-- bound to 0.0.0.0 and that port, BUF where there is none
abbrev pub bound_by : Table → ℕ → Option Socket → Option Port → Result Table Code
bound_by t conn (Some local) port = Ok t
bound_by t conn None (Some port) = Ok (with_ephemeral t conn port)
bound_by t conn None None = Err Buf

-- the table in which a connection is bound, or BUF
abbrev pub bound : Table → ℕ → Result Table Code
bound t conn = bound_by t conn (local_of t.ends conn) (free_port t)

-- the table with a connection connected
abbrev pub with_peer : ℕ → Socket → Table → Table
with_peer conn to t = record t { ends = changed t.ends conn (with_remote to) }

-- the table after Connect, or its refusal
abbrev pub connect : Table → ℕ → Socket → Result Table Code
connect t conn to = result_map (with_peer conn to) (bound t conn)

-- what a call answers
abbrev pub answer_of : Result Table Code → Result (Unit {0}) Code
answer_of (Ok t) = Ok tt
answer_of (Err fault) = Err fault

-- the table after a call: as before where it refused
abbrev pub table_after : Table → Result Table Code → Table
table_after old (Ok t) = t
table_after old (Err fault) = old
