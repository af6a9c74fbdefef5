use Rattle.std.proofs.Common.{rules, take, length-take, arith}
use Rattle.lw_pbuf.proofs.Sharing.{twins_more, twins_count}
use Rattle.lw_pbuf.proofs.share.twins.Goals as goal

pub push_reserved-requires : goal.push_reserved-requires
push_reserved-requires c =
    let l = c.loop-span in
    let n = twins_count (take l.span-index c.args.spans.now) l.twins.items l.invariant.twins in
    let t = length-take l.span-index c.args.spans.now in
    let r = l.invariant.room in
    omega arith

pub loop-span-preserved : goal.loop-span-preserved
loop-span-preserved c =
    let l = c.loop-span in
    let r = l.invariant.room in
    let k = c.push_reserved.ensures.capacity in
    record {
      twins = twins_more c.args.spans.now l.twins.items c.push_reserved.new.self.items l.span-index c.span-item.result c.in_ok-twin.field-0 (omega arith) c.span-item.is l.invariant.twins c.in_ok-twin.ensures.twin c.push_reserved.ensures.items;
      room = omega arith;
      same = search rules;
    }
