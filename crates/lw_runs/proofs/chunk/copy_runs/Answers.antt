use Rattle.lw_runs.proofs.Joins.{short_read}
use Rattle.lw_runs.proofs.chunk.copy_runs.Goals as goal

pub copy_one-requires : goal.copy_one-requires
copy_one-requires g c = short_read g.P.Payload.seen c.args.runs.now c.loop-run.run-index c.run-item.result c.loop-run-test.true c.run-item.is c.requires
