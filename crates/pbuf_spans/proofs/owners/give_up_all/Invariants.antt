use Rattle.std.proofs.Common.{length}
use Rattle.pbuf_spans.proofs.Owning.{Frees}
use Rattle.pbuf_spans.proofs.owners.give_up_all.Given as goal

abbrev pub invariant-loop-pbuf : goal.invariant-loop-pbuf
invariant-loop-pbuf l = Frees l.fn.seat l.seat l.fn.seat.holder.table l.fn.pbufs.items l.pbufs.items l.ended

abbrev pub decreases-loop-pbuf : goal.decreases-loop-pbuf
decreases-loop-pbuf l = length l.pbufs.items
