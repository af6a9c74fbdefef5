use Rattle.std.proofs.Common.{rules}
use Rattle.pbuf_counts.proofs.Steps.{leaves}
use Rattle.pbuf_counts.proofs.counts.Counts.drop_one.Goals as goal

pub fetch_sub-found-requires : goal.fetch_sub-found-requires
fetch_sub-found-requires c = (search rules, search rules, leaves _ _ _ _ _ (search rules) (search rules) (search rules))
