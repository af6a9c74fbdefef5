use Rattle.std.proofs.Common.{rules}
use Rattle.pbuf_counts.proofs.Steps.{looks}
use Rattle.pbuf_counts.proofs.counts.Counts.look.Goals as goal

pub load-requires : goal.load-requires
load-requires c = (search rules, search rules, looks _ _ _ _ _ (search rules))
