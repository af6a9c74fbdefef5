use Rattle.std.proofs.Common.{rules}
use Rattle.pbuf_counts.proofs.Steps.{adds}
use Rattle.pbuf_counts.proofs.counts.Counts.add.Goals as goal

pub fetch_add-requires : goal.fetch_add-requires
fetch_add-requires c = (search rules, search rules, adds _ _ _ _ _ (search rules) (search rules) (search rules) (search rules))
