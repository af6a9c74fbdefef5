use Rattle.std.proofs.Common.{◌∙◌, Bool, ap, sym}
use Rattle.lw_base.specs.EventWord.{is_set}
use Rattle.lw_transcript.specs.Fields.{letter_of, where_set}
use Rattle.lw_transcript.proofs.Printing.{Prints-none, Prints-same}
use Rattle.lw_transcript.proofs.fields.letter.Goals as goal

pub returns-else-has : goal.returns-else-has
returns-else-has g c =
    Prints-same (Prints-none (g.K.Sink.seen c.args.sink.now) c.args.page.now)
    (ap (λ (b : Bool). where_set b (letter_of c.args.flag)) (sym (sym c.has.ensures ∙ c.if-has.false)))
