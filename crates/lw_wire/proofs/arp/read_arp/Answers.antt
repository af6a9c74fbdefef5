use Rattle.std.proofs.Common.{arith, ◌∙◌}
use Rattle.lw_wire.proofs.ArpLaws.{arp-found, arp-only}
use Rattle.lw_wire.proofs.arp.read_arp.Goals as goal

pub returns-clause-found : goal.returns-clause-found
returns-clause-found c = rw c.arp_of.ensures (arp-found c.args.octets.now (λ i. omega (arith, c.type_inv.octets i)))

pub returns-clause-only : goal.returns-clause-only
returns-clause-only c = λ p spells. c.arp_of.ensures ∙ arp-only c.args.octets.now p spells
