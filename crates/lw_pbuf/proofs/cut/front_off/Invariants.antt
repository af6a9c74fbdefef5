use Rattle.std.proofs.Common.{◌≡◌, ◌≤◌, length}
use Rattle.lw_pbuf.specs.Chains.{all_parts, NoneEmpty}
use Rattle.pbuf_spans.proofs.Cutting.{FrontCut}
use Rattle.lw_pbuf.proofs.cut.front_off.Given as goal

abbrev pub invariant-loop-left : goal.invariant-loop-left
invariant-loop-left l = record {
  under_way : FrontCut l.fn.seat l.seat (all_parts l.fn.spans.items) (all_parts l.spans.items) l.n l.left;
  full : NoneEmpty l.spans.items;
  capacity : l.spans.capacity ≡ l.fn.spans.capacity;
  fewer : length l.spans.items ≤ length l.fn.spans.items;
}

abbrev pub decreases-loop-left : goal.decreases-loop-left
decreases-loop-left l = l.left
