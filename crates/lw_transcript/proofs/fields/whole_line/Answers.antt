use Rattle.lw_transcript.proofs.Printing.{Prints-then}
use Rattle.lw_transcript.proofs.fields.whole_line.Goals as goal

pub returns : goal.returns
returns g c = Prints-then (Prints-then c.text.ensures c.behind.ensures) c.text-2.ensures
