use Rattle.std.proofs.Common.{rules, ◌≡◌, ◌+◌, min, List, length, take, drop, ap, ◌∙◌, arith}
use Rattle.std.specs.Prelude.{slice_range}
use Rattle.std.proofs.lemmas.List.{take_all, take_min}
use Rattle.std.proofs.lemmas.List.Sums.{sum_by-take-drop}
use Rattle.pbuf_seats.specs.declared.pbuf.Pbuf.{Pbuf}
use Rattle.pbuf_spans.specs.Parts.{Part, joined}
use Rattle.pbuf_spans.specs.Spans.{lens, octets_of, is_own}
use Rattle.pbuf_spans.proofs.Spans.{lens-front, lens-more, lens_text, lens_joined, length-behind}
use Rattle.pbuf_spans.proofs.span.Span.tot_len.Goals as goal

pub overflow_sub-total : goal.overflow_sub-total
overflow_sub-total c =
    let s = c.self.inside in
    let front : List Pbuf = take c.min.result c.deref.result.now in
    let more = lens-more front c.loop-pbuf.pbuf-index c.pbuf-item.result c.loop-pbuf-test.true c.pbuf-item.is in
    let a = lens-front (c.loop-pbuf.pbuf-index + 1) front in
    let b = lens-front c.min.result c.deref.result.now in
    let e = ap lens c.deref.ensures.value in
    let l = lens_joined s.body s.from s.to s.pbufs.items c.self.invariant in
    let v = ap (λ (x : List Part). length (joined x)) c.self.view_is in
    let i = c.loop-pbuf.invariant in
    omega arith

pub loop-pbuf-preserved : goal.loop-pbuf-preserved
loop-pbuf-preserved c =
    let s = c.self.inside in
    let front : List Pbuf = take c.min.result c.deref.result.now in
    let more = lens-more front c.loop-pbuf.pbuf-index c.pbuf-item.result c.loop-pbuf-test.true c.pbuf-item.is in
    let enough = overflow_sub-total c in
    let i = c.loop-pbuf.invariant in
    omega arith

pub returns : goal.returns
returns c =
    let s = c.self.inside in
    let ps : List Pbuf = s.pbufs.items in
    let front : List Pbuf = take c.min.result c.deref.result.now in
    let past : lens (take c.loop-pbuf.pbuf-index front) ≡ lens front = ap lens (take_all c.loop-pbuf.pbuf-index front c.loop-pbuf-test.false) in
    let count : c.len.result ≡ length ps = search rules in
    let least : c.min.result ≡ min c.args.i (length ps) = c.min.ensures ∙ ap (min c.args.i) count in
    let first : front ≡ take c.args.i ps = (λ i. take (least i) (c.deref.ensures.value i)) ∙ take_min c.args.i ps in
    let firsts = ap lens first in
    let both = sum_by-take-drop (λ (q : Pbuf). q.len) ps c.args.i in
    let whole = lens_text s.body s.from s.to ps c.self.invariant in
    let behind = length-behind (is_own s.body) (slice_range (octets_of s.body) s.from s.to) c.args.i ps (omega arith) in
    let l = lens_joined s.body s.from s.to ps c.self.invariant in
    let v = ap (λ (x : List Part). length (joined x)) c.self.view_is in
    let w = ap (λ (x : List Part). length (joined (drop c.args.i x))) c.self.view_is in
    let i = c.loop-pbuf.invariant in
    omega arith
