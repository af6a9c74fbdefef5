use Rattle.std.proofs.Common.{◌∷◌, [], codes}
use Rattle.lw_transcript.specs.Fields.{Word, Number, Address}
use Rattle.lw_transcript.specs.CoreLines.{data_fields}
use Rattle.lw_transcript.proofs.Printing.{Prints-two}
use Rattle.lw_transcript.proofs.core_text.send_to.Goals as goal

pub returns : goal.returns
returns g c =
    Prints-two (Word (codes "sendto") ∷ Number c.args.conn ∷ Address c.args.ip ∷ Number c.args.port.0 ∷ []) (data_fields c.args.given.now)
    c.addressed.ensures c.send_data.ensures
