use Rattle.std.proofs.Common.{◌≡◌, ap, ◌∙◌, sym, subst}
use Rattle.std.specs.Prelude.{slice_range}
use Rattle.std.specs.Arc.{arc_value}
use Rattle.pbuf_spans.specs.declared.body.Body.{Body}
use Rattle.pbuf_spans.specs.Spans.{octets_of, is_own, parts_of, IsSpan}
use Rattle.pbuf_spans.specs.Shares.{as_shared}
use Rattle.pbuf_spans.specs.Windows.{WindowSeen}
use Rattle.std.proofs.Common.{map}
use Rattle.pbuf_spans.proofs.Sharing.{looks_through, shared_view}
use Rattle.pbuf_spans.proofs.span.Span.look_through.Goals as goal

pub invariant_of-self : goal.invariant_of-self
invariant_of-self c =
    let s = c.self.inside in
    let w = c.window.inside in
    subst (λ (b : Body). IsSpan b w.from w.to s.pbufs.items) (sym c.replace-old.ensures.after)
    (looks_through s.body s.from s.to s.pbufs.items c.args.self.now c.self.invariant c.self.view_is (arc_value w.body).items w.from w.to c.window.invariant.0 c.window.invariant.1 (ap (λ (x : WindowSeen). x.octets) c.window.view_is ∙ c.requires))

pub returns-clause-shared : goal.returns-clause-shared
returns-clause-shared c =
    let s = c.self.inside in
    let w = c.window.inside in
    subst (λ (b : Body). parts_of (is_own b) (slice_range (octets_of b) w.from w.to) s.pbufs.items ≡ map as_shared c.args.self.now) (sym c.replace-old.ensures.after)
    (shared_view s.body s.from s.to s.pbufs.items c.args.self.now c.self.invariant c.self.view_is (arc_value w.body).items w.from w.to (ap (λ (x : WindowSeen). x.octets) c.window.view_is ∙ c.requires))
