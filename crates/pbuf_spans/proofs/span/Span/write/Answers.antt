use Rattle.std.proofs.Common.{◌≡◌, ℕ, ◌-◌, true, List, length, sym, ap, ◌∙◌, arith, length-drop, length-take, drop}
use Rattle.std.specs.Prelude.{slice_range}
use Rattle.std.proofs.lemmas.List.{with_items_is}
use Rattle.std.proofs.lemmas.Slice.{between-put_mid}
use borrow.Rule.Slice.PartMut.{put_mid}
use Rattle.pbuf_spans.specs.Spans.{octets_of, is_own}
use Rattle.pbuf_spans.proofs.Spans.{lens_text}
use Rattle.pbuf_spans.proofs.Rewriting.{as_many, length-put_mid, written_over, none_written}
use Rattle.pbuf_spans.proofs.span.Span.write.Goals as goal

pub copy_from_slice-requires : goal.copy_from_slice-requires
copy_from_slice-requires c =
    let s = c.self.inside in
    let many = as_many s.body s.from s.to s.pbufs.items c.args.self.now c.args.octets.now c.self.invariant c.self.view_is c.requires.exact in
    let body : length c.deref_mut.result.now ≡ length (octets_of s.body) = ap length c.deref_mut.ensures.value ∙ sym (ap (λ (b : _). length (octets_of b)) c.in-Own.is) in
    let a = length-take (s.to - s.from) (drop s.from c.deref_mut.result.now) in
    let b = length-drop s.from c.deref_mut.result.now in
    let i = c.self.invariant.0 in
    let j = c.self.invariant.1 in
    omega arith

pub returns-in-Own : goal.returns-in-Own
returns-in-Own c =
    let s = c.self.inside in
    let xs : List ℕ = c.deref_mut.result.now in
    let ys : List ℕ = c.copy_from_slice.new.self in
    let many = as_many s.body s.from s.to s.pbufs.items c.args.self.now c.args.octets.now c.self.invariant c.self.view_is c.requires.exact in
    let body : length xs ≡ length (octets_of s.body) = ap length c.deref_mut.ensures.value ∙ sym (ap (λ (b : _). length (octets_of b)) c.in-Own.is) in
    let after = ap length c.copy_from_slice.ensures.after in
    let i = c.self.invariant.0 in
    let j = c.self.invariant.1 in
    let size = length-put_mid s.from (s.to - s.from) xs ys (omega arith) (omega arith) in
    let text = ap (λ (l : List ℕ). slice_range l s.from s.to) (with_items_is c.in-Own.body (put_mid s.from (s.to - s.from) xs ys) (size ∙ c.deref_mut.ensures.len))
    ∙ between-put_mid s.from (s.to - s.from) xs ys s.to (omega arith) (omega arith) in
    let w = written_over true (slice_range (octets_of s.body) s.from s.to) _ c.args.octets.now s.pbufs.items c.args.self.now (is_own s.body) (ap is_own c.in-Own.is) c.self.view_is
    (lens_text s.body s.from s.to s.pbufs.items c.self.invariant) c.requires.exact (text ∙ c.copy_from_slice.ensures.after) in
    record { octets = w.0; same = w.1 }

pub returns-in_default : goal.returns-in_default
returns-in_default c =
    let s = c.self.inside in
    let w = none_written (is_own s.body) (slice_range (octets_of s.body) s.from s.to) c.args.octets.now s.pbufs.items c.args.self.now (ap is_own c.in_default.is) c.self.view_is c.requires.own c.requires.exact in
    record { octets = w.0; same = w.1 }
