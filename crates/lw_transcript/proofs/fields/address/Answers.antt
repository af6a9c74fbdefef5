use Rattle.lw_transcript.proofs.Printing.{Prints-then}
use Rattle.lw_transcript.proofs.fields.address.Goals as goal

pub returns : goal.returns
returns g c =
    let to_1 = Prints-then c.number.ensures c.text.ensures in
    let to_2 = Prints-then to_1 c.number-2.ensures in
    let to_3 = Prints-then to_2 c.text-2.ensures in
    let to_4 = Prints-then to_3 c.number-3.ensures in
    let to_5 = Prints-then to_4 c.text-3.ensures in
    Prints-then to_5 c.number-4.ensures
