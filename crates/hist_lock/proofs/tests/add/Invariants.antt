use Rattle.hist_lock.specs.Callers.{IsSameCaller}
use Rattle.hist_lock.proofs.tests.add.Given as goal

abbrev pub invariant-loop : goal.invariant-loop
invariant-loop g l = IsSameCaller l.fn.who l.who
