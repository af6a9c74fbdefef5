use Rattle.std.proofs.Common.{ap, length, arith}
use Rattle.pbuf_spans.specs.Parts.{joined}
use Rattle.pbuf_spans.proofs.Spans.{length-text, joined_text}
use Rattle.pbuf_spans.proofs.span.Span.len.Goals as goal

pub returns : goal.returns
returns c =
    let s = c.self.inside in
    let e = ap (λ (l : _). length (joined l)) c.self.view_is in
    let j = ap length (joined_text s.body s.from s.to s.pbufs.items c.self.invariant) in
    let l = length-text s.body s.from s.to s.pbufs.items c.self.invariant in
    omega arith
