use Rattle.std.proofs.Common.{◌≡◌, ◌<◌, ◌++◌, List, length, ap, arith}
use Rattle.pbuf_spans.specs.Parts.{Part, joined}
use Rattle.lw_pbuf.specs.Chains.{ChainSeen, all_parts}
use Rattle.lw_pbuf.proofs.Joined.{length-joined-append}
use Rattle.lw_pbuf.proofs.Counting.{octets-here}
use Rattle.lw_pbuf.proofs.chain.Chain.len.Goals as goal

pub loop-span-init : goal.loop-span-init
loop-span-init c =
    let v : length (joined (all_parts c.self.inside.spans.items)) ≡ length (joined c.args.self.now.parts) = ap (λ (x : ChainSeen). length (joined x.parts)) c.self.view_is in
    let e = ap (λ (l : List (List Part)). length (joined (all_parts l))) c.as_slice-span-items.ensures in
    omega arith

pub overflow_add-total : goal.overflow_add-total
overflow_add-total c =
    let l = c.loop-span in
    let i = l.invariant in
    let inside : l.span-index < length c.as_slice-span-items.result.now = omega arith in
    let h = octets-here c.as_slice-span-items.result.now l.span-index c.span-item.result inside c.span-item.is in
    let n = c.len-total.ensures in
    let short = c.self.invariant.0.short in
    let v = ap (λ (x : ChainSeen). length (joined x.parts)) c.self.view_is in
    omega arith

pub loop-span-preserved : goal.loop-span-preserved
loop-span-preserved c =
    let l = c.loop-span in
    let i = l.invariant in
    let inside : l.span-index < length c.as_slice-span-items.result.now = omega arith in
    let h = octets-here c.as_slice-span-items.result.now l.span-index c.span-item.result inside c.span-item.is in
    let n = c.len-total.ensures in
    omega arith
