use Rattle.call_places.proofs.WaitLaws.{awaits}
use Rattle.call_places.proofs.laws.a_signal_came_so_often.Goals as goal

pub returns : goal.returns
returns g = awaits
