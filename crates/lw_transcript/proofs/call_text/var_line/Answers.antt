use Rattle.std.proofs.Common.{◌∷◌, [], List, codes}
use Rattle.lw_transcript.specs.Fields.{Field, Name}
use Rattle.lw_transcript.specs.CallLines.{named_fields}
use Rattle.lw_transcript.proofs.Printing.{Prints-behind, Prints-then}
use Rattle.lw_transcript.proofs.call_text.var_line.Goals as goal

pub returns : goal.returns
returns g c =
    let head : List Field = Name (codes "v") c.args.var ∷ [] in
    let to_1 = Prints-then c.text.ensures c.behind.ensures in
    let to_2 = Prints-behind (codes "var") head (named_fields c.args.handle) to_1 c.named.ensures in
    Prints-then to_2 c.text-2.ensures
