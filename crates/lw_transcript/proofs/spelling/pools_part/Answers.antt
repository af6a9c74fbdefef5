use Rattle.lw_transcript.proofs.Printing.{Prints-none}
use Rattle.lw_transcript.proofs.spelling.pools_part.Goals as goal

pub returns-in-None : goal.returns-in-None
returns-in-None g c = rw c.in-None.is (Prints-none (g.K.Sink.seen c.args.sink.now) c.args.page.now)

pub returns-in-Some : goal.returns-in-Some
returns-in-Some g c = rw c.in-Some.is c.told_pools.ensures
