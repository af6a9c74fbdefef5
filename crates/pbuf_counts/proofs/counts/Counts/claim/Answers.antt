use Rattle.std.proofs.Common.{rules}
use Rattle.pbuf_counts.proofs.Steps.{tries}
use Rattle.pbuf_counts.proofs.Cuts.{births}
use Rattle.pbuf_counts.proofs.counts.Counts.claim.Goals as goal

pub compare_exchange-found-requires : goal.compare_exchange-found-requires
compare_exchange-found-requires c = (search rules, search rules, tries _ _ _ _ _ (search rules) (search rules) (search rules) (search rules))

pub split_seat-seat-requires : goal.split_seat-seat-requires
split_seat-seat-requires c = (search rules, search rules, births _ _ _ (search rules) (search rules) (search rules) (search rules))
