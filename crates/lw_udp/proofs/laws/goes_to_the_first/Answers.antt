use Rattle.lw_udp.proofs.ClaimLaws.{delivery}
use Rattle.lw_udp.proofs.laws.goes_to_the_first.Goals as goal

pub returns : goal.returns
returns g = delivery
