use Rattle.std.proofs.Common.{◌≡◌, ◌+◌, ◌≤◌, ◌++◌, length, vec_capacity}
use Rattle.lw_runs.specs.Runs.{bodies_of}
use Rattle.lw_runs.proofs.chunk.give_runs.Given as goal

abbrev pub invariant-loop-run : goal.invariant-loop-run
invariant-loop-run g l =
    record {
      given : l.gone.items ++ bodies_of l.run-iterator.rest.items ≡ l.fn.gone.items ++ bodies_of l.fn.runs.items;
      room : length l.gone.items + length l.run-iterator.rest.items ≤ vec_capacity l.gone;
      same : vec_capacity l.gone ≡ vec_capacity l.fn.gone;
    }
