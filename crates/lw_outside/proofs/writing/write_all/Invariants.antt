use Rattle.std.proofs.Common.{length}
use Rattle.lw_outside.proofs.WriteLaws.{WrittenSoFar}
use Rattle.lw_outside.proofs.writing.write_all.Given as goal

abbrev pub invariant-loop-rest : goal.invariant-loop-rest
invariant-loop-rest g l = WrittenSoFar (g.K.Sink.seen l.fn.sink) (g.K.Sink.seen l.sink) l.octets l.rest

abbrev pub decreases-loop-rest : goal.decreases-loop-rest
decreases-loop-rest g l = length l.rest
