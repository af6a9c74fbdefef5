use Rattle.std.proofs.Common.{◌<◌, length, arith}
use Rattle.pbuf_spans.proofs.Owning.{least_here, least_end}
use Rattle.pbuf_spans.proofs.owners.has_adds.Goals as goal

pub returns-then-adds-eq0-clause-none : goal.returns-then-adds-eq0-clause-none
returns-then-adds-eq0-clause-none c = λ _.
    let l = c.loop-pbuf in
    let inside : l.pbuf-index < length c.args.pbufs.now = omega arith in
    let e = least_here c.args.pbufs.now l.pbuf-index c.pbuf-item.result inside c.pbuf-item.is in
    let n = c.adds.ensures in
    let z = c.if-adds-eq0.true in
    let m = l.invariant.most in
    omega arith

pub loop-pbuf-preserved : goal.loop-pbuf-preserved
loop-pbuf-preserved c =
    let l = c.loop-pbuf in
    let inside : l.pbuf-index < length c.args.pbufs.now = omega arith in
    let e = least_here c.args.pbufs.now l.pbuf-index c.pbuf-item.result inside c.pbuf-item.is in
    let n = c.adds.ensures in
    let z = c.if-adds-eq0.false in
    let m = l.invariant.most in
    record { most = omega arith; some = λ s. l.invariant.some (omega arith) }

pub returns-clause-some : goal.returns-clause-some
returns-clause-some c = λ _. let e = least_end c.args.pbufs.now c.loop-pbuf.pbuf-index (omega arith) in c.loop-pbuf.invariant.some (omega arith)
