use Rattle.std.proofs.Common.{◌≡◌, ◌+◌, ◌≤◌, ◌++◌, map, length, vec_capacity}
use Rattle.lw_runs.specs.Runs.{bodies_of}
use Rattle.lw_runs.specs.Chunked.{flat}
use Rattle.lw_runs.proofs.chunks.Chunks.give_all.Given as goal

abbrev pub invariant-loop-chunk : goal.invariant-loop-chunk
invariant-loop-chunk g l =
    record {
      given : l.gone.items ++ bodies_of (flat (map (λ v. v.items) l.chunk-iterator.rest.items)) ≡ l.fn.gone.items ++ bodies_of l.fn.self.runs;
      room : length l.gone.items + length (flat (map (λ v. v.items) l.chunk-iterator.rest.items)) ≤ vec_capacity l.gone;
      same : vec_capacity l.gone ≡ vec_capacity l.fn.gone;
    }
