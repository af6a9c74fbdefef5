use Rattle.call_runs.proofs.GoesLaws.{goes_none, goes_more_from}
use Rattle.call_runs.proofs.calls.finish.Goals as goal

pub loop-init : goal.loop-init
loop-init g c = goes_none _ _ _ _ _

pub loop-preserved : goal.loop-preserved
loop-preserved g c = goes_more_from _ _ _ _ _ _ _ _ _ _ _ _ c.in-Err.ensures c.loop.invariant c.in_ok-at-in-Err.ensures
