-- An echo request is answered with its own identifier, sequence number and data.
use Rattle.std.proofs.Common.{◌≡◌, ◌^◌, ◌<◌, ℕ, List, Some, drop, refl, ap, ◌∙◌, arith}
use Rattle.lw_base.specs.declared.heads.IcmpHead.{IcmpHead}
use Rattle.lw_wire.specs.Fields.{AreOctets}
use Rattle.lw_wire.specs.Icmp.{icmp_spelling, HasIcmpSpelling}
use Rattle.lw_wire.proofs.IcmpLaws.{icmp-read_back}
use Rattle.lw_icmp.specs.Messages.{answer_in, echo_answer, echo_reply, echo_request}

-- behind the head of a request stands its data
pub request-behind : (numbers : ℕ) (body : List ℕ) → drop 8 (echo_request numbers body) ≡ body
unfolding icmp_spelling
request-behind numbers body = refl

-- a request is answered
pub request-answered : (numbers : ℕ) (body : List ℕ) → numbers < 2 ^ 32 → AreOctets body
    → echo_reply (echo_request numbers body) ≡ Some (echo_answer numbers body)
request-answered numbers body fit small =
    let h : IcmpHead = record { kind = 8; code = 0; rest = numbers } in
    let fits : HasIcmpSpelling h = record { kind = omega arith; code = omega arith; rest = fit } in
    ap (answer_in (echo_request numbers body)) (icmp-read_back h body fits small).0
    ∙ ap (λ (data_behind : List ℕ). Some (echo_answer numbers data_behind)) (request-behind numbers body)
