use Rattle.std.proofs.Common.{arith}
use Rattle.pbuf_spans.proofs.Cutting.{first_part, first_whole, first_owner}
use Rattle.pbuf_spans.proofs.span.Span.cut_first.Goals as goal

pub returns-then-n-len : goal.returns-then-n-len
returns-then-n-len c = let s = c.self.inside in let r = c.requires in
    let f = first_part c.args.seat.now s.body s.from s.to s.pbufs.items c.args.self.now c.index.result.now c.index_mut.result.now c.args.n c.self.invariant c.self.view_is r.chain r.some r.within c.index.ensures c.index_mut.ensures.value c.if-n-len.true in
    record { octets = f.octets; left = f.left_parts; within = f.within; less = f.less; chain = f.chain; cut = f.cut }

pub give_up-requires : goal.give_up-requires
give_up-requires c = let s = c.self.inside in let r = c.requires in let a = r.some in let b = r.within in
    first_owner c.args.seat.now s.body s.from s.to s.pbufs.items c.args.self.now c.remove-first.result c.self.view_is r.chain r.listed (omega arith) c.remove-first.ensures.value

pub returns : goal.returns
returns c = let s = c.self.inside in let r = c.requires in let e = c.remove-first.ensures in
    let f = first_whole c.args.seat.now c.give_up.new.seat s.body s.from s.to s.pbufs.items c.remove-first.new.self.items c.args.self.now c.index.result.now c.remove-first.result c.args.n c.self.invariant c.self.view_is r.chain r.some r.within c.index.ensures e.value c.if-n-len.false e.items c.give_up.ensures.spent in
    record { octets = f.octets; left = f.left_parts; within = f.within; less = f.less; chain = f.chain; cut = f.cut }
