use Rattle.std.proofs.Common.{map}
use Rattle.lw_runs.specs.Runs.{bodies_of}
use Rattle.lw_runs.specs.Chunked.{flat}
use Rattle.lw_runs.proofs.Joins.{Joins}
use Rattle.lw_runs.proofs.chunks.Chunks.join_all.Given as goal

abbrev pub invariant-loop-chunk : goal.invariant-loop-chunk
invariant-loop-chunk g l = Joins g.P.Payload.seen (bodies_of l.fn.self.runs) l.all (bodies_of (flat (map (λ v. v.items) l.chunk-iterator.rest.items)))
