use Rattle.std.proofs.Common.{arith, ◌∙◌}
use Rattle.lw_wire.proofs.EthLaws.{eth-found, eth-only}
use Rattle.lw_wire.proofs.eth.read_eth.Goals as goal

pub returns-clause-found : goal.returns-clause-found
returns-clause-found c = rw c.eth_of.ensures (eth-found c.args.octets.now (λ i. omega (arith, c.type_inv.octets i)))

pub returns-clause-only : goal.returns-clause-only
returns-clause-only c = λ h place spells. c.eth_of.ensures ∙ eth-only c.args.octets.now h place spells
