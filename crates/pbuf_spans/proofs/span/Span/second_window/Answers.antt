use Rattle.std.proofs.Common.{ℕ, Vec, Global, refl, ap, sym, ◌∙◌}
use Rattle.std.specs.Arc.{arc_value}
use Rattle.std.specs.declared.sync.Arc.{Arc}
use Rattle.pbuf_spans.specs.declared.body.Body.TheVariants.{Shared}
use Rattle.pbuf_spans.specs.declared.span.Span.TheInside.{Inside}
use Rattle.pbuf_spans.specs.contracts.span.Span.{the_view}
use Rattle.pbuf_spans.specs.Spans.{octets_of, is_own}
use Rattle.pbuf_spans.proofs.Sharing.{same_window, stays_shared}
use Rattle.pbuf_spans.proofs.span.Span.second_window.Goals as goal
use Rattle.pbuf_spans.proofs.span.Span.second_window.Goals.{in-Shared+in_ok-second-in-Shared, in-Own+in_ok-first-in-Own}

pub returns-clause-window : goal.returns-clause-window
returns-clause-window c =
    let s = c.self.inside in
    let m = c.match-self in
    let window = same_window s.body s.from s.to s.pbufs.items c.args.self.now c.self.invariant c.self.view_is (arc_value m.second).items c.of.result.octets m.self-inside.from m.self-inside.to c.of.ensures in
    elim m.branch [
      | in-Shared+in_ok-second-in-Shared w ↦
          window (ap (λ (a : Arc (Vec ℕ Global) Global). (arc_value a).items) w.second-is ∙ (ap (λ (v : Vec ℕ Global). v.items) w.in_ok-second-in-Shared.ensures ∙ sym (ap octets_of w.in-Shared.is)))
          (ap (λ (x : Inside). x.from) w.self-inside-is) (ap (λ (x : Inside). x.to) w.self-inside-is)
      | in-Own+in_ok-first-in-Own w ↦
          window (ap (λ (a : Arc (Vec ℕ Global) Global). (arc_value a).items) w.second-is ∙ (w.in_ok-first-in-Own.ensures.second ∙ sym (ap octets_of w.in-Own.is)))
          (ap (λ (x : Inside). x.from) w.self-inside-is) (ap (λ (x : Inside). x.to) w.self-inside-is)
    ]

pub returns-clause-shared : goal.returns-clause-shared
returns-clause-shared c =
    let s = c.self.inside in
    let m = c.match-self in
    let shared = stays_shared s.body s.from s.to s.pbufs.items c.args.self.now c.self.invariant c.self.view_is in
    elim m.branch [
      | in-Shared+in_ok-second-in-Shared w ↦
          ap the_view w.self-inside-is ∙ shared (Shared w.in-Shared.body) (sym (ap octets_of w.in-Shared.is)) refl
      | in-Own+in_ok-first-in-Own w ↦
          ap the_view w.self-inside-is ∙ shared w.replace-old.new.dest (ap octets_of w.replace-old.ensures.after ∙ (w.in_ok-first-in-Own.ensures.first ∙ sym (ap octets_of w.in-Own.is))) (ap is_own w.replace-old.ensures.after)
    ]
