use Rattle.lw_core.proofs.AnswerLaws.{arp-answered}
use Rattle.lw_core.proofs.laws.arp_request_is_answered.Goals as goal

pub returns : goal.returns
returns g = arp-answered
