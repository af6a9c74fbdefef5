use Rattle.std.proofs.Common.{◌≡◌, ◌++◌, map, drop}
use Rattle.lw_runs.specs.Runs.{bodies_of}
use Rattle.lw_runs.specs.Lists.{text_of}
use Rattle.lw_runs.specs.Chunked.{flat}
use Rattle.lw_runs.proofs.chunks.copy_all.Given as goal

abbrev pub invariant-loop-chunk : goal.invariant-loop-chunk
invariant-loop-chunk g l =
    l.all.items ++ text_of g.P.Payload.seen (bodies_of (flat (map (λ v. v.items) (drop l.chunk-index l.chunks)))) ≡ l.fn.all.items ++ text_of g.P.Payload.seen (bodies_of (flat (map (λ v. v.items) l.chunks)))
