use Rattle.lw_calls.proofs.LookLaws.{looks}
use Rattle.lw_calls.proofs.laws.a_look_makes_no_event.Goals as goal

pub returns : goal.returns
returns g = looks
