use Rattle.std.proofs.Common.{◌≡◌, ◌<◌, ◌∙◌, ◌+◌, ◌-◌, ◌++◌, ℕ, List, length, drop, ap, arith}
use Rattle.pbuf_spans.specs.Parts.{Part, joined}
use Rattle.lw_pbuf.specs.Chains.{ChainSeen, all_parts}
use Rattle.lw_pbuf.proofs.Counting.{behind-both, behind-here, behind-most}
use Rattle.lw_pbuf.proofs.chain.Chain.tot_len.Goals as goal

pub loop-span-init : goal.loop-span-init
loop-span-init c =
    let v : length (joined (drop c.args.i (all_parts c.self.inside.spans.items))) ≡ length (joined (drop c.args.i c.args.self.now.parts)) = ap (λ (x : ChainSeen). length (joined (drop c.args.i x.parts))) c.self.view_is in
    let e = ap (λ (l : List (List Part)). length (joined (drop c.args.i (all_parts l)))) c.as_slice-span-items.ensures in
    omega arith

pub overflow_add-total : goal.overflow_add-total
overflow_add-total c =
    let l = c.loop-span in
    let i = l.invariant in
    let inside : l.span-index < length c.as_slice-span-items.result.now = omega arith in
    let h = behind-here c.as_slice-span-items.result.now l.span-index l.skip c.span-item.result inside c.span-item.is in
    let n = c.tot_len-total.ensures in
    let most = behind-most c.args.i c.args.self.now.parts in
    let short = c.self.invariant.0.short in
    let v = ap (λ (x : ChainSeen). length (joined x.parts)) c.self.view_is in
    omega arith

pub loop-span-preserved : goal.loop-span-preserved
loop-span-preserved c =
    let l = c.loop-span in
    let i = l.invariant in
    let inside : l.span-index < length c.as_slice-span-items.result.now = omega arith in
    let h = behind-here c.as_slice-span-items.result.now l.span-index l.skip c.span-item.result inside c.span-item.is in
    let n = c.tot_len-total.ensures in
    let skip : c.saturating_sub-skip.result ≡ l.skip - length c.span-item.result = c.saturating_sub-skip.ensures ∙ ap (λ (k : ℕ). l.skip - k) c.clen.ensures in
    let e = ap (λ (k : ℕ). length (joined (drop k (all_parts (drop (l.span-index + 1) c.as_slice-span-items.result.now))))) skip in
    omega arith
