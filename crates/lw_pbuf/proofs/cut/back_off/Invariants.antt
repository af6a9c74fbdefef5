use Rattle.std.proofs.Common.{◌≡◌}
use Rattle.lw_pbuf.proofs.SpanCuts.{BackCut}
use Rattle.lw_pbuf.proofs.cut.back_off.Given as goal

abbrev pub invariant-loop-left : goal.invariant-loop-left
invariant-loop-left l = record {
  under_way : BackCut l.fn.seat l.seat l.fn.spans.items l.spans.items l.n l.left;
  capacity : l.spans.capacity ≡ l.fn.spans.capacity;
}

abbrev pub decreases-loop-left : goal.decreases-loop-left
decreases-loop-left l = l.left
