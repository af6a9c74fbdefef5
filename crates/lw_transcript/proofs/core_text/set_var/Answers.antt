use Rattle.std.proofs.Common.{◌∷◌, [], codes}
use Rattle.lw_transcript.specs.Fields.{Word, Name}
use Rattle.lw_transcript.specs.CoreLines.{handle_fields}
use Rattle.lw_transcript.proofs.Printing.{Prints-two}
use Rattle.lw_transcript.proofs.core_text.set_var.Goals as goal

pub returns : goal.returns
returns g c = Prints-two (Word (codes "setvar") ∷ Name (codes "v") c.args.var ∷ []) (handle_fields c.args.handle) c.behind.ensures c.handle_part.ensures
