use Rattle.std.proofs.Common.{ap, length, arith}
use Rattle.std.specs.Prelude.{slice_range}
use Rattle.pbuf_spans.specs.Spans.{octets_of, is_own}
use Rattle.pbuf_spans.proofs.Spans.{length-parts_of}
use Rattle.pbuf_spans.proofs.span.Span.clen.Goals as goal

pub returns : goal.returns
returns c =
    let s = c.self.inside in
    let e = ap length c.self.view_is in
    let l = length-parts_of (is_own s.body) (slice_range (octets_of s.body) s.from s.to) s.pbufs.items in
    let n = c.len.ensures in
    omega arith
