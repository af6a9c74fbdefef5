use Rattle.std.proofs.Common.{List, ℕ, length}
use Rattle.hex.specs.Hex.{encode_lower}
use Rattle.lw_transcript.proofs.Printing.{PutSoFar}
use Rattle.lw_transcript.proofs.page.Page.put_pieces.Given as goal

abbrev pub invariant-loop-rest : goal.invariant-loop-rest
invariant-loop-rest g l = PutSoFar (λ (x : List ℕ). x) (g.K.Sink.seen l.fn.sink) (g.K.Sink.seen l.sink) l.fn.self l.self l.octets l.rest

abbrev pub decreases-loop-rest : goal.decreases-loop-rest
decreases-loop-rest g l = length l.rest
