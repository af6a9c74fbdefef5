use Rattle.std.proofs.Common.{rules, ◌≡◌, ◌<◌, arith}
use Rattle.pbuf_spans.specs.Parts.{least_adds}
use Rattle.lw_pbuf.proofs.Sharing.{least_here, least_end}
use Rattle.lw_pbuf.proofs.share.have_adds.Goals as goal

pub returns-then-not-has_adds-clause-none : goal.returns-then-not-has_adds-clause-none
returns-then-not-has_adds-clause-none c = λ _.
    let l = c.loop-span in
    let e = least_here c.args.spans.now l.span-index c.span-item.result (omega arith) c.span-item.is in
    let none : least_adds c.span-item.result ≡ 0 = c.has_adds.ensures.none c.if-not-has_adds.true in
    let m = l.invariant.most in
    omega arith

pub loop-span-preserved : goal.loop-span-preserved
loop-span-preserved c =
    let l = c.loop-span in
    let e = least_here c.args.spans.now l.span-index c.span-item.result (omega arith) c.span-item.is in
    let one : 0 < least_adds c.span-item.result = c.has_adds.ensures.some (search rules) in
    let m = l.invariant.most in
    record { most = omega arith; some = λ s. l.invariant.some (omega arith) }

pub returns-clause-some : goal.returns-clause-some
returns-clause-some c = λ _. let e = least_end c.args.spans.now c.loop-span.span-index (omega arith) in c.loop-span.invariant.some (omega arith)
