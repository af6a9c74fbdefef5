use Rattle.call_places.proofs.WaitLaws.{timeouts}
use Rattle.call_places.proofs.laws.a_timeout_is_never_early.Goals as goal

pub returns : goal.returns
returns g = timeouts
