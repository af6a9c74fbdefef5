use Rattle.std.proofs.Common.{rules}
use Rattle.pbuf_counts.proofs.Cuts.{parts, parts_right}
use Rattle.pbuf_counts.proofs.counts.Counts.part.Goals as goal

pub split_seat-requires : goal.split_seat-requires
split_seat-requires c = (search rules, search rules, parts_right _ _ _ (search rules) (search rules) (search rules))

pub split_seat-requires-2 : goal.split_seat-requires-2
split_seat-requires-2 c = (search rules, search rules, parts _ _ _ (search rules) (search rules))
