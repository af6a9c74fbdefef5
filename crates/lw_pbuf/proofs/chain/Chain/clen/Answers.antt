use Rattle.std.proofs.Common.{◌≤◌, ◌<◌, length, ap, subst, arith}
use Rattle.pbuf_spans.specs.Parts.{joined}
use Rattle.lw_pbuf.specs.Chains.{ChainSeen}
use Rattle.lw_pbuf.proofs.Joined.{few_parts}
use Rattle.lw_pbuf.proofs.Counting.{count-here, chain-few}
use Rattle.lw_pbuf.proofs.chain.Chain.clen.Goals as goal

pub overflow_add-count : goal.overflow_add-count
overflow_add-count c =
    let l = c.loop-span in
    let i = l.invariant in
    let inside : l.span-index < length c.as_slice-span-items.result.now = omega arith in
    let h = count-here c.as_slice-span-items.result.now l.span-index c.span-item.result inside c.span-item.is in
    let n = c.clen-count.ensures in
    let few = chain-few _ _ c.self.invariant.0 in
    let v = ap (λ (x : ChainSeen). length x.parts) c.self.view_is in
    omega arith

pub overflow_cast-result : goal.overflow_cast-result
overflow_cast-result c =
    let i = c.loop-span.invariant in
    let few = chain-few _ _ c.self.invariant.0 in
    let v = ap (λ (x : ChainSeen). length x.parts) c.self.view_is in
    omega arith

pub returns-clause-few : goal.returns-clause-few
returns-clause-few c = subst (λ (x : ChainSeen). length x.parts ≤ length (joined x.parts)) c.self.view_is (few_parts _ c.self.invariant.0.some)
