use Rattle.hist_lock.proofs.Closing.{IsGathered}
use Rattle.hist_lock.proofs.lock.gather.Given as goal

abbrev pub invariant-loop-caller : goal.invariant-loop-caller
invariant-loop-caller g l = IsGathered l.steps.key.value l.steps.table_id l.fn.callers.items l.callers.items l.seat

abbrev pub decreases-loop-caller : goal.decreases-loop-caller
decreases-loop-caller g l = goal.left-loop-caller g l
