use Rattle.std.proofs.Common.{arith, ◌∙◌}
use Rattle.lw_wire.proofs.IcmpLaws.{icmp-found, icmp-only}
use Rattle.lw_wire.proofs.icmp.read_icmp.Goals as goal

pub returns-clause-found : goal.returns-clause-found
returns-clause-found c = rw c.icmp_of.ensures (icmp-found c.args.octets.now (λ i. omega (arith, c.type_inv.octets i)))

pub returns-clause-only : goal.returns-clause-only
returns-clause-only c = λ h place spells. c.icmp_of.ensures ∙ icmp-only c.args.octets.now h place spells
