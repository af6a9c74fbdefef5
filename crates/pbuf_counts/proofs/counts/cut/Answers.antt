use Rattle.std.proofs.Common.{rules}
use Rattle.pbuf_counts.proofs.Cuts.{cuts}
use Rattle.pbuf_counts.proofs.counts.cut.Goals as goal

pub split_seat-requires : goal.split_seat-requires
split_seat-requires g c = (search rules, search rules, cuts _ _ _ _ (search rules) (search rules))
