use Rattle.std.proofs.Common.{◌+◌, ◌≤◌, ◌∷◌}
use Rattle.lw_runs.specs.Kept.{parts_of}
use Rattle.lw_runs.specs.Runs.{bodies_of}
use Rattle.lw_runs.proofs.Joins.{Joins}
use Rattle.lw_runs.proofs.chunk.join_runs.Given as goal

abbrev pub invariant-loop-run : goal.invariant-loop-run
invariant-loop-run g l =
    record {
      joins : Joins g.P.Payload.seen (l.fn.all ∷ bodies_of l.fn.runs.items) l.all (bodies_of l.run-iterator.rest.items);
      room : (g.P.Payload.seen l.fn.all).room + parts_of g.P.Payload.seen (bodies_of l.run-iterator.rest.items) ≤ (g.P.Payload.seen l.all).room + parts_of g.P.Payload.seen (bodies_of l.fn.runs.items);
    }
