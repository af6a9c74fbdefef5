use Rattle.lw_udp.proofs.LiveLaws.{gone}
use Rattle.lw_udp.proofs.laws.removed_is_not_found.Goals as goal

pub returns : goal.returns
returns g = gone
