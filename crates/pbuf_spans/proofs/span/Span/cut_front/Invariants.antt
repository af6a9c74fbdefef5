use Rattle.pbuf_spans.proofs.Cutting.{FrontCut}
use Rattle.pbuf_spans.proofs.span.Span.cut_front.Given as goal

abbrev pub invariant-loop-left : goal.invariant-loop-left
invariant-loop-left l = FrontCut l.fn.seat l.seat l.fn.self l.self l.n l.left

abbrev pub decreases-loop-left : goal.decreases-loop-left
decreases-loop-left l = l.left
