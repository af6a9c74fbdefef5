use Rattle.call_runs.proofs.GoesLaws.{step_made}
use Rattle.call_runs.proofs.calls.step_on.Goals as goal

pub returns : goal.returns
returns g c = step_made _ _ _ _ _ _ _ _ _ _ c.in_ok-asked.ensures c.in_ok-answer.ensures.gives c.in_ok-answer.ensures.fits c.in_ok-made.ensures c.in_ok-write_down.ensures
