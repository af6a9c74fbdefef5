use Rattle.lw_core.proofs.AnswerLaws.{udp-delivered}
use Rattle.lw_core.proofs.laws.datagram_is_delivered.Goals as goal

pub returns : goal.returns
returns g = udp-delivered
