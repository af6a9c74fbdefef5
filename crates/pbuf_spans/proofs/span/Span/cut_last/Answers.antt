use Rattle.pbuf_spans.proofs.Cutting.{last_part, last_whole, last_owner}
use Rattle.pbuf_spans.proofs.span.Span.cut_last.Goals as goal

pub returns-then-n-len : goal.returns-then-n-len
returns-then-n-len c = let s = c.self.inside in let r = c.requires in
    let f = last_part c.args.seat.now s.body s.from s.to s.pbufs.items c.pop.new.self.items c.push_reserved.new.self.items c.args.self.now c.in-Some.last c.args.n c.self.invariant c.self.view_is r.chain r.some c.in-Some.ensures.items c.if-n-len.true c.push_reserved.ensures.items in
    record { octets = f.octets; left = f.left_parts; count = f.count; less = f.less; chain = f.chain; cut = f.cut }

pub give_up-requires : goal.give_up-requires
give_up-requires c = let s = c.self.inside in let r = c.requires in
    last_owner c.args.seat.now s.body s.from s.to s.pbufs.items c.pop.new.self.items c.args.self.now c.in-Some.last c.self.view_is r.chain r.listed c.in-Some.ensures.items

pub returns : goal.returns
returns c = let s = c.self.inside in let r = c.requires in
    let f = last_whole c.args.seat.now c.give_up.new.seat s.body s.from s.to s.pbufs.items c.pop.new.self.items c.args.self.now c.in-Some.last c.args.n c.self.invariant c.self.view_is r.chain r.within c.in-Some.ensures.items c.if-n-len.false c.give_up.ensures.spent in
    record { octets = f.octets; left = f.left_parts; count = f.count; less = f.less; chain = f.chain; cut = f.cut }
