use Rattle.std.proofs.Common.{◌∷◌, [], codes}
use Rattle.lw_transcript.specs.Fields.{Word, Number}
use Rattle.lw_transcript.specs.CoreLines.{option_fields}
use Rattle.lw_transcript.proofs.Printing.{Prints-two}
use Rattle.lw_transcript.proofs.core_text.set_fd.Goals as goal

pub returns : goal.returns
returns g c = Prints-two (Word (codes "setfd") ∷ Number c.args.fd ∷ []) (option_fields c.args.option) c.behind.ensures c.fd_option.ensures
