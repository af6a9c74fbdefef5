use Rattle.std.proofs.Common.{◌≡◌, List, ap, sym, ◌∙◌, arith}
use Rattle.std.specs.Prelude.{slice_range}
use Rattle.pbuf_seats.specs.declared.pbuf.Pbuf.{Pbuf}
use Rattle.pbuf_spans.specs.Parts.{least_adds}
use Rattle.pbuf_spans.specs.Spans.{bare, octets_of, is_own}
use Rattle.pbuf_spans.proofs.Spans.{least_adds-parts_of}
use Rattle.pbuf_spans.proofs.span.Span.has_adds.Goals as goal

same : (c : goal.After-has_adds) → least_adds c.args.self.now ≡ least_adds (bare c.as_slice.result.now)
same c =
    let s = c.self.inside in
    sym (ap least_adds c.self.view_is) ∙ (least_adds-parts_of (is_own s.body) (slice_range (octets_of s.body) s.from s.to) s.pbufs.items
    ∙ sym (ap (λ (l : List Pbuf). least_adds (bare l)) c.as_slice.ensures.value))

pub returns-clause-some : goal.returns-clause-some
returns-clause-some c = λ e. let a = c.has_adds.ensures.some e in let b = same c in omega arith

pub returns-clause-none : goal.returns-clause-none
returns-clause-none c = λ e. let a = c.has_adds.ensures.none e in let b = same c in omega arith
