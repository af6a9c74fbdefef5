use Rattle.std.proofs.Common.{length}
use Rattle.lw_pbuf.proofs.Freed.{Frees}
use Rattle.lw_pbuf.proofs.free.give_up_each.Given as goal

abbrev pub invariant-loop-span : goal.invariant-loop-span
invariant-loop-span l = Frees l.fn.seat l.seat l.fn.spans.items l.spans.items l.ended

abbrev pub decreases-loop-span : goal.decreases-loop-span
decreases-loop-span l = length l.spans.items
