use Rattle.lw_transcript.proofs.Printing.{Prints-then}
use Rattle.lw_transcript.proofs.call_text.call_line.Goals as goal

pub returns : goal.returns
returns g c =
    let to_1 = Prints-then c.text.ensures c.number.ensures in
    let to_2 = Prints-then to_1 c.text-2.ensures in
    let to_3 = Prints-then to_2 c.put.ensures in
    Prints-then to_3 c.text-3.ensures
