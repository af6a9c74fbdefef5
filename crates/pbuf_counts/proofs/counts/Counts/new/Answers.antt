use Rattle.std.proofs.Common.{rules}
use Rattle.pbuf_counts.proofs.Keeps.{starts}
use Rattle.pbuf_counts.proofs.counts.Counts.new.Goals as goal

pub of_words-requires : goal.of_words-requires
of_words-requires c = starts _ _ (search rules)
