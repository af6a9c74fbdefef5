use Rattle.hex.specs.Hex.{encode_lower}
use Rattle.lw_transcript.proofs.Printing.{Prints-add}
use Rattle.lw_transcript.proofs.page.Page.hex.Goals as goal

pub returns-then-octets-left : goal.returns-then-octets-left
returns-then-octets-left g c = Prints-add (g.K.Sink.seen c.args.sink.now) c.args.self.now c.add_hex.new.self (encode_lower c.args.octets.now) c.add_hex.ensures.pending c.add_hex.ensures.failed
