use Rattle.std.proofs.Common.{◌≡◌, All}
use Rattle.hist_lock.specs.Callers.{IsCallerOf}
use Rattle.bench_lock.proofs.line_up.Given as goal

abbrev pub invariant-loop-index : goal.invariant-loop-index
invariant-loop-index l = IsCallerOf l.lock l.first × (l.first.number ≡ 0) × (l.first.splits ≡ l.index) × All (IsCallerOf l.lock) l.workers.items
