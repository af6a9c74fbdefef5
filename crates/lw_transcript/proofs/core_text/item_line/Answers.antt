use Rattle.std.proofs.Common.{◌∷◌, [], List, codes}
use Rattle.lw_transcript.specs.Fields.{Field, Number}
use Rattle.lw_transcript.specs.CoreLines.{item_fields}
use Rattle.lw_transcript.proofs.Printing.{Prints-behind, Prints-then}
use Rattle.lw_transcript.proofs.core_text.item_line.Goals as goal

pub returns : goal.returns
returns g c =
    let head : List Field = Number c.args.conn ∷ Number c.args.ticket ∷ [] in
    let to_1 = Prints-then c.text.ensures c.behind.ensures in
    let to_2 = Prints-behind (codes "post") head (item_fields c.args.text.now) to_1 c.item.ensures in
    Prints-then to_2 c.text-2.ensures
