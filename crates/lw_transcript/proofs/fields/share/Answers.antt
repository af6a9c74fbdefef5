use Rattle.lw_transcript.proofs.Printing.{Prints-then}
use Rattle.lw_transcript.proofs.fields.share.Goals as goal

pub returns : goal.returns
returns g c = Prints-then (Prints-then c.number.ensures c.text.ensures) c.number-2.ensures
