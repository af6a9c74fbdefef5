use Rattle.hist_lock.specs.Callers.{IsCallerOf}
use Rattle.tcpip_rows.proofs.worker.call.Given as goal

abbrev pub invariant-loop-amount : goal.invariant-loop-amount
invariant-loop-amount g l = IsCallerOf l.lock l.who
