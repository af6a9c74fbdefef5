use Rattle.std.proofs.Common.{◌≡◌, ◌++◌, drop}
use Rattle.lw_runs.specs.Runs.{bodies_of}
use Rattle.lw_runs.specs.Lists.{text_of}
use Rattle.lw_runs.proofs.chunk.copy_runs.Given as goal

abbrev pub invariant-loop-run : goal.invariant-loop-run
invariant-loop-run g l =
    l.all.items ++ text_of g.P.Payload.seen (bodies_of (drop l.run-index l.runs)) ≡ l.fn.all.items ++ text_of g.P.Payload.seen (bodies_of l.runs)
