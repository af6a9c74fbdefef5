use Rattle.std.proofs.Common.{rules, ◌≡◌, ◌++◌, ◌∷◌, [], length, arith}
use Rattle.lw_pbuf.proofs.Freed.{frees_first, frees_span, frees_few, frees_next, frees_last, give-few}
use Rattle.lw_pbuf.proofs.free.give_up_each.Goals as goal

pub loop-span-init : goal.loop-span-init
loop-span-init c = frees_first c.args.seat.now c.args.spans.items c.requires.chain c.requires.listed

pub give_up-ended-requires : goal.give_up-ended-requires
give_up-ended-requires c =
    let is : c.loop-span.spans.items ≡ c.pop.new.self.items ++ c.in-Some.span ∷ [] = search rules in
    let m = frees_span c.args.seat.now c.loop-span.seat c.args.spans.items c.loop-span.spans.items c.pop.new.self.items c.in-Some.span c.loop-span.ended c.loop-span.invariant is in
    record { under = m.chain.under; listed = m.listed; few = give-few c.loop-span.seat c.in-Some.span m }

pub overflow_add-ended : goal.overflow_add-ended
overflow_add-ended c =
    let is : c.loop-span.spans.items ≡ c.pop.new.self.items ++ c.in-Some.span ∷ [] = search rules in
    let f = frees_few c.args.seat.now c.loop-span.seat c.args.spans.items c.loop-span.spans.items c.pop.new.self.items c.in-Some.span c.loop-span.ended c.loop-span.invariant is c.give_up-ended.result c.give_up-ended.ensures.few in
    omega arith

pub loop-span-preserved : goal.loop-span-preserved
loop-span-preserved c =
    let is : c.loop-span.spans.items ≡ c.pop.new.self.items ++ c.in-Some.span ∷ [] = search rules in
    let e = c.give_up-ended.ensures in
    frees_next c.args.seat.now c.loop-span.seat c.args.spans.items c.loop-span.spans.items c.pop.new.self.items c.in-Some.span c.loop-span.ended c.loop-span.invariant is c.give_up-ended.new.seat c.give_up-ended.result e.spent e.ended e.few

pub returns-clause-spent : goal.returns-clause-spent
returns-clause-spent c =
    let none : length c.loop-span.spans.items ≡ 0 = search rules in
    (frees_last c.args.seat.now c.loop-span.seat c.args.spans.items c.loop-span.spans.items c.loop-span.ended c.loop-span.invariant none).0
