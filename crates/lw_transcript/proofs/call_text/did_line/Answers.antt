use Rattle.lw_transcript.proofs.Printing.{Prints-then}
use Rattle.lw_transcript.proofs.call_text.did_line.Goals as goal

pub returns : goal.returns
returns g c = Prints-then (Prints-then c.text.ensures c.did_what.ensures) c.text-2.ensures
