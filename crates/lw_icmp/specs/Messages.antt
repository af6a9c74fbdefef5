-- ICMP messages that a stack sends (RFC 792).
use Rattle.std.specs.Prelude.{ℕ, ◌++◌, ◌==◌, ◌&&◌, Bool, List, Option, Some, None, Result, Ok, Err, take, drop, if◌then◌else◌}
use Rattle.lw_base.specs.declared.heads.IcmpHead.{IcmpHead}
use Rattle.lw_wire.specs.declared.fault.WireFault.{WireFault}
use Rattle.lw_wire.specs.Icmp.{icmp_of, icmp_spelling}

-- an echo request: type 8, code 0, an identifier and a sequence number in four octets, and data
abbrev pub echo_request : ℕ → List ℕ → List ℕ
echo_request numbers body = icmp_spelling (record { kind = 8; code = 0; rest = numbers }) body

-- the answer to it: type 0, with the same identifier and sequence number and the same data
abbrev pub echo_answer : ℕ → List ℕ → List ℕ
echo_answer numbers body = icmp_spelling (record { kind = 0; code = 0; rest = numbers }) body

-- a head of an echo request
abbrev pub is_echo_request : IcmpHead → Bool
is_echo_request h = h.kind == 8 && h.code == 0

-- the answer to what was read, if it was an echo request
abbrev pub answer_in : List ℕ → Result (IcmpHead × ℕ) WireFault → Option (List ℕ)
answer_in octets (Ok r) = if is_echo_request r.0 then Some (echo_answer r.0.rest (drop r.1 octets)) else None
answer_in octets (Err fault) = None

-- the message that answers octets, if they are an echo request
abbrev pub echo_reply : List ℕ → Option (List ℕ)
echo_reply octets = answer_in octets (icmp_of octets)

-- the message that tells a sender that its datagram didn't arrive: type 3, four octets of 0, the header of the
-- datagram, and the first eight octets of its data
abbrev pub unreachable : ℕ → List ℕ → List ℕ → List ℕ
unreachable code head body = icmp_spelling (record { kind = 3; code = code; rest = 0 }) (head ++ take 8 body)
