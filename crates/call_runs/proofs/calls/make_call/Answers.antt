use Rattle.call_runs.proofs.GoesLaws.{call_made_from}
use Rattle.call_runs.proofs.calls.make_call.Goals as goal

pub returns-clause-made : goal.returns-clause-made
returns-clause-made g c = call_made_from _ _ _ _ _ _ _ _ _ _ c.start-place.ensures c.in_ok-outcome.ensures
