use Rattle.std.proofs.Common.{arith, ◌∙◌}
use Rattle.lw_wire.proofs.IpLaws.{ip-found, ip-only}
use Rattle.lw_wire.proofs.ip.read_ip.Goals as goal

pub returns-clause-found : goal.returns-clause-found
returns-clause-found c = rw c.ip_of.ensures (ip-found c.args.octets.now (λ i. omega (arith, c.type_inv.octets i)))

pub returns-clause-only : goal.returns-clause-only
returns-clause-only c = λ h place spells. c.ip_of.ensures ∙ ip-only c.args.octets.now h place spells
