use Rattle.std.proofs.Common.{Bool, ap, sym}
use Rattle.std.specs.List.{flat_map}
use Rattle.lw_transcript.specs.Fields.{behind_text}
use Rattle.lw_transcript.specs.CoreLines.{short_fields}
use Rattle.lw_transcript.proofs.Printing.{Prints-none, Prints-same}
use Rattle.lw_transcript.proofs.core_text.short.Goals as goal

pub returns-else-short : goal.returns-else-short
returns-else-short g c =
    Prints-same (Prints-none (g.K.Sink.seen c.args.sink.now) c.args.page.now)
    (ap (λ (b : Bool). flat_map behind_text (short_fields b)) (sym c.if-short.false))
