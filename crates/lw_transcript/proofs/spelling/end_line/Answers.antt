use Rattle.std.proofs.Common.{◌∷◌, [], List, codes}
use Rattle.lw_transcript.specs.Fields.{Field, Word, Number}
use Rattle.lw_transcript.specs.Transcript.{pools_fields}
use Rattle.lw_transcript.proofs.Printing.{Prints-behind, Prints-then}
use Rattle.lw_transcript.proofs.spelling.end_line.Goals as goal

pub returns : goal.returns
returns g c =
    let end = c.args.end in
    let head : List Field = Word (codes "core") ∷ Number end.core ∷ Word (codes "out") ∷ Number end.out ∷ [] in
    let to_1 = Prints-then c.text.ensures c.behind.ensures in
    let to_2 = Prints-behind (codes "end") head (pools_fields end.pools) to_1 c.pools_part.ensures in
    Prints-then to_2 c.text-2.ensures
