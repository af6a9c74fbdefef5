use Rattle.lw_transcript.proofs.Printing.{Prints-then}
use Rattle.lw_transcript.proofs.fields.name.Goals as goal

pub returns : goal.returns
returns g c = Prints-then c.text.ensures c.number.ensures
