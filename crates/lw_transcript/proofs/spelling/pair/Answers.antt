use Rattle.lw_transcript.proofs.Printing.{Prints-then}
use Rattle.lw_transcript.proofs.spelling.pair.Goals as goal

pub returns : goal.returns
returns g c = Prints-then (Prints-then (Prints-then c.side_line.ensures c.body.ensures) c.side_line-2.ensures) c.body-2.ensures
