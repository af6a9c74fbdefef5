use Rattle.lw_transcript.proofs.Printing.{Prints-then}
use Rattle.lw_transcript.proofs.spelling.transcript.Goals as goal

pub returns : goal.returns
returns g c = Prints-then c.head_line.ensures c.bodies.ensures
