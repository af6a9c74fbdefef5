use Rattle.std.proofs.Common.{rules}
use Rattle.lw_pbuf.proofs.Freed.{one-few}
use Rattle.lw_pbuf.proofs.free.give_up_spans.Goals as goal

pub give_up-requires-clause-few : goal.give_up-requires-clause-few
give_up-requires-clause-few c = one-few _ c.args.spans.items _ (search rules) c.requires.chain
