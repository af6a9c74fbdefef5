use Rattle.lw_udp.proofs.LiveLaws.{live_port}
use Rattle.lw_udp.proofs.laws.live_port_is_not_given_again.Goals as goal

pub returns : goal.returns
returns g = live_port
