use Rattle.lw_core.proofs.AnswerLaws.{echo-answered}
use Rattle.lw_core.proofs.laws.echo_request_is_answered.Goals as goal

pub returns : goal.returns
returns g = echo-answered
