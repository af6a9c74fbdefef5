use Rattle.std.proofs.Common.{◌≡◌, ◌+◌, ◌-◌, ◌<◌, ◌∙◌, ℕ, List, length, take, drop, ap, subst, arith}
use Rattle.std.specs.Prelude.{slice_range}
use Rattle.pbuf_spans.specs.Parts.{Part, joined}
use Rattle.lw_pbuf.specs.Chains.{all_parts}
use Rattle.pbuf_spans.proofs.Lists.{joined-append}
use Rattle.lw_pbuf.proofs.Spans.{all_parts-here}
use Rattle.lw_pbuf.proofs.Counting.{count-end}
use Rattle.lw_pbuf.proofs.Copying.{Copies, copies_first, copies_next, copies_last}
use Rattle.lw_pbuf.proofs.copy.copy_out.Goals as goal

pub loop-span-init : goal.loop-span-init
loop-span-init c = copies_first (joined (all_parts c.args.spans.now)) c.args.out.now c.args.from c.requires.within

pub loop-span-preserved : goal.loop-span-preserved
loop-span-preserved c =
    let l = c.loop-span in
    let spans = c.args.spans.now in
    let inside : l.span-index < length spans = omega arith in
    let p = c.span-item.result in
    let w = slice_range (joined (all_parts spans)) c.args.from (c.args.from + length c.args.out.now) in
    let o = c.octets-octets.result.now in
    let same : o ≡ joined p = c.octets-octets.ensures in
    let long = ap (λ (x : List ℕ). length x) same in
    let begin = c.min-begin.result in
    let count = c.min-count.result in
    let eb = c.min-begin.ensures in
    let ec = c.min-count.ensures in
    let n = l.auto.out in
    copies_next w (joined p) (joined (all_parts (drop (l.span-index + 1) spans))) l.out c.write_at.new.out (slice_range o begin (begin + count)) l.skip l.at begin count
    (subst (λ (x : List ℕ). Copies w x l.out l.skip l.at) (ap joined (all_parts-here spans l.span-index p inside c.span-item.is) ∙ joined-append p (all_parts (drop (l.span-index + 1) spans))) l.invariant)
    (omega arith) (omega arith)
    (ap (λ (k : ℕ). take k (drop begin o)) (let q : (begin + count) - begin ≡ count = omega arith in q) ∙ ap (λ (x : List ℕ). take count (drop begin x)) same)
    c.write_at.ensures

pub returns : goal.returns
returns c =
    let l = c.loop-span in
    let spans = c.args.spans.now in
    let none = ap (λ (x : List Part). length (joined x)) (count-end spans l.span-index (omega arith)) in
    copies_last (slice_range (joined (all_parts spans)) c.args.from (c.args.from + length c.args.out.now)) (joined (all_parts (drop l.span-index spans))) l.out l.skip l.at l.invariant none
