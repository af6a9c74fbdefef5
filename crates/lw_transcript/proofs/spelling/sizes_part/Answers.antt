use Rattle.std.proofs.Common.{sym}
use Rattle.std.proofs.lemmas.List.{append-nil}
use Rattle.lw_transcript.specs.Transcript.{sizes_text}
use Rattle.lw_transcript.proofs.Printing.{Prints-none, Prints-same}
use Rattle.lw_transcript.proofs.spelling.sizes_part.Goals as goal

pub returns-in-Some : goal.returns-in-Some
returns-in-Some g c = rw c.in-Some.is (Prints-same c.sizes_line.ensures (sym (append-nil (sizes_text c.in-Some.sizes))))

pub returns-in-None : goal.returns-in-None
returns-in-None g c = rw c.in-None.is (Prints-none (g.K.Sink.seen c.args.sink.now) c.args.page.now)
