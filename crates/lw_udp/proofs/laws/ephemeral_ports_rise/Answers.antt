use Rattle.lw_udp.proofs.TurnLaws.{ports}
use Rattle.lw_udp.proofs.laws.ephemeral_ports_rise.Goals as goal

pub returns : goal.returns
returns g = ports
