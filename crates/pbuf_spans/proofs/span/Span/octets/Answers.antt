use Rattle.std.proofs.Common.{ℕ, ◌-◌, List, take, drop, ap, ◌∙◌, sym}
use Rattle.pbuf_spans.specs.Parts.{joined}
use Rattle.pbuf_spans.proofs.Spans.{joined_text}
use Rattle.pbuf_spans.proofs.span.Span.octets.Goals as goal

pub returns : goal.returns
returns c =
    let s = c.self.inside in
    ap (λ (l : List ℕ). take (s.to - s.from) (drop s.from l)) c.octets.ensures ∙ (sym (joined_text s.body s.from s.to s.pbufs.items c.self.invariant) ∙ ap joined c.self.view_is)
