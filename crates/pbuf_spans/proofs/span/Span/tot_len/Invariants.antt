use Rattle.std.proofs.Common.{◌≡◌, ◌+◌, length, take}
use Rattle.pbuf_spans.specs.Parts.{joined}
use Rattle.pbuf_spans.specs.Spans.{lens}
use Rattle.pbuf_spans.proofs.span.Span.tot_len.Given as goal

abbrev pub invariant-loop-pbuf : goal.invariant-loop-pbuf
invariant-loop-pbuf l = l.total + lens (take l.pbuf-index l.pbuf-items) ≡ length (joined l.self)
