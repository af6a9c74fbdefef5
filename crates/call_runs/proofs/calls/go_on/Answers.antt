use Rattle.call_runs.proofs.GoesLaws.{goes_none, goes_more}
use Rattle.call_runs.proofs.calls.go_on.Goals as goal

pub loop-init : goal.loop-init
loop-init g c = goes_none _ _ _ _ _

pub loop-preserved : goal.loop-preserved
loop-preserved g c = goes_more _ _ _ _ _ _ _ _ _ _ _ c.loop.invariant c.in_ok-at.ensures
