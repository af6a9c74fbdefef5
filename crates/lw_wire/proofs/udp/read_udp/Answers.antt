use Rattle.std.proofs.Common.{arith, ◌∙◌}
use Rattle.lw_wire.proofs.UdpLaws.{udp-found, udp-only}
use Rattle.lw_wire.proofs.udp.read_udp.Goals as goal

pub returns-clause-found : goal.returns-clause-found
returns-clause-found c =
    rw c.udp_of.ensures (udp-found c.args.octets.now c.args.src c.args.dst (λ i. omega (arith, c.type_inv.octets i)))

pub returns-clause-only : goal.returns-clause-only
returns-clause-only c = λ h place spells. c.udp_of.ensures ∙ udp-only c.args.octets.now c.args.src c.args.dst h place spells
