use Rattle.std.proofs.Common.{◌≡◌, ℕ, Vec, Global, length, refl, ap, sym, ◌∙◌, arith}
use Rattle.std.specs.Arc.{arc_value}
use Rattle.pbuf_spans.specs.Windows.{WindowSeen}
use Rattle.pbuf_spans.specs.Parts.{joined}
use Rattle.pbuf_spans.specs.Spans.{octets_of, is_own}
use Rattle.pbuf_spans.proofs.Spans.{length-parts_of}
use Rattle.pbuf_spans.proofs.Sharing.{same_window, whole_range}
use Rattle.std.specs.Prelude.{slice_range}
use Rattle.pbuf_spans.proofs.span.Span.twin.Goals as goal
use Rattle.pbuf_spans.proofs.span.Span.twin.Goals.{in-Own+in_ok-shared_buffer-in-Own, in-Shared+in_ok-try_clone-in-Shared}

pub returns-clause-twin : goal.returns-clause-twin
returns-clause-twin c =
    let s = c.self.inside in
    let m = c.match-self in
    let first : m.first.octets ≡ joined c.args.self.now = elim m.branch [
      | in-Own+in_ok-shared_buffer-in-Own w ↦
          ap (λ (x : WindowSeen). x.octets) w.first-is
          ∙ whole_range (arc_value w.in_ok-shared_buffer-in-Own.field-0).items w.of-first.result.octets (joined c.args.self.now) w.len-in-Own.result w.of-first.ensures (w.in_ok-shared_buffer-in-Own.ensures.octets ∙ w.octets.ensures) w.len-in-Own.ensures
      | in-Shared+in_ok-try_clone-in-Shared w ↦
          ap (λ (x : WindowSeen). x.octets) w.first-is
          ∙ same_window s.body s.from s.to s.pbufs.items c.args.self.now c.self.invariant c.self.view_is (arc_value w.in_ok-try_clone-in-Shared.field-0).items w.of-first-in-Shared.result.octets s.from s.to w.of-first-in-Shared.ensures
          (ap (λ (v : Vec ℕ Global). v.items) w.in_ok-try_clone-in-Shared.ensures ∙ sym (ap octets_of w.in-Shared.is)) refl refl
    ] in
    record {
      first = first;
      second = c.in_ok-second.ensures ∙ first;
      none = c.in_ok-pbufs.ensures.list.0;
      room = let l = c.in_ok-pbufs.ensures.list.1 in let n = c.len.ensures in let v = ap length c.self.view_is in let p = length-parts_of (is_own s.body) (slice_range (octets_of s.body) s.from s.to) s.pbufs.items in omega arith;
    }
