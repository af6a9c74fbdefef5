use Rattle.lw_transcript.proofs.Printing.{Prints-add}
use Rattle.lw_transcript.proofs.page.Page.put.Goals as goal

pub returns-then-octets-left : goal.returns-then-octets-left
returns-then-octets-left g c = Prints-add (g.K.Sink.seen c.args.sink.now) c.args.self.now c.add.new.self c.args.octets.now c.add.ensures.pending c.add.ensures.failed
