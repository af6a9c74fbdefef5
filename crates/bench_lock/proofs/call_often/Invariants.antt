use Rattle.hist_lock.specs.Callers.{IsCallerOf}
use Rattle.bench_lock.proofs.call_often.Given as goal

abbrev pub invariant-loop : goal.invariant-loop
invariant-loop g l = IsCallerOf l.lock l.who
