use Rattle.std.proofs.Common.{rules, Bool, true, false, cond, ◌≡◌, ◌≤◌, ◌++◌, ◌∷◌, [], length, refl, ap, sym, ◌∙◌, subst, arith}
use mir.Val.{bool_byte}
use Rattle.pbuf_seats.specs.Owners.{ended_at}
use Rattle.pbuf_seats.specs.Seats.{SeatSeen}
use Rattle.pbuf_spans.specs.Parts.{IsSpent, GivesBack}
use Rattle.pbuf_spans.specs.Spans.{bare}
use Rattle.pbuf_spans.proofs.Owning.{frees_first, frees_owner, frees_next, frees_last}
use Rattle.pbuf_spans.proofs.owners.give_up_all.Goals as goal

bit_small : (b : Bool) → bool_byte b ≤ 1
bit_small true = omega arith
bit_small false = omega arith

bit : (b : Bool) → bool_byte b ≡ cond b 1 0
bit true = refl
bit false = refl

pub loop-pbuf-init : goal.loop-pbuf-init
loop-pbuf-init c = frees_first c.args.seat.now c.args.pbufs.items c.requires.under c.requires.listed

pub give_up-requires : goal.give_up-requires
give_up-requires c = let is : c.loop-pbuf.pbufs.items ≡ c.pop.new.self.items ++ c.in-Some.pbuf ∷ [] = search rules in
    frees_owner c.args.seat.now c.loop-pbuf.seat c.args.seat.now.holder.table c.args.pbufs.items c.loop-pbuf.pbufs.items c.pop.new.self.items c.in-Some.pbuf c.loop-pbuf.ended c.loop-pbuf.invariant is

pub overflow_add-ended : goal.overflow_add-ended
overflow_add-ended c = let is : c.loop-pbuf.pbufs.items ≡ c.pop.new.self.items ++ c.in-Some.pbuf ∷ [] = search rules in
    let b = bit_small c.give_up.result in let q = bit c.give_up.result in let e = c.from-ended.ensures in let d = c.give_up.ensures.ended in
    let n = frees_next c.args.seat.now c.loop-pbuf.seat c.args.seat.now.holder.table c.args.pbufs.items c.loop-pbuf.pbufs.items c.pop.new.self.items c.in-Some.pbuf c.loop-pbuf.ended c.loop-pbuf.invariant is
    c.give_up.new.seat c.from-ended.result c.give_up.ensures.spent c.give_up.ensures.back (omega arith) (omega arith) in let few = n.few in let r = c.requires.few in omega arith

pub loop-pbuf-preserved : goal.loop-pbuf-preserved
loop-pbuf-preserved c = let is : c.loop-pbuf.pbufs.items ≡ c.pop.new.self.items ++ c.in-Some.pbuf ∷ [] = search rules in
    let b = bit_small c.give_up.result in let q = bit c.give_up.result in let e = c.from-ended.ensures in let d = c.give_up.ensures.ended in
    frees_next c.args.seat.now c.loop-pbuf.seat c.args.seat.now.holder.table c.args.pbufs.items c.loop-pbuf.pbufs.items c.pop.new.self.items c.in-Some.pbuf c.loop-pbuf.ended c.loop-pbuf.invariant is
    c.give_up.new.seat c.from-ended.result c.give_up.ensures.spent c.give_up.ensures.back (omega arith) (omega arith)

pub returns : goal.returns
returns c =
    let i = c.loop-pbuf.invariant in
    let none : length c.loop-pbuf.pbufs.items ≡ 0 = search rules in
    let same = c.keep_list.ensures in
    record {
      spent = subst (λ (x : SeatSeen). IsSpent c.args.seat.now x (bare c.args.pbufs.items)) (sym same)
          (frees_last c.args.seat.now c.loop-pbuf.seat c.args.seat.now.holder.table c.args.pbufs.items c.loop-pbuf.pbufs.items c.loop-pbuf.ended i none);
      ended = ap ended_at same ∙ i.ends;
      few = let f = i.few in omega arith;
      back = subst (λ (x : SeatSeen). GivesBack c.args.seat.now.holder x.holder) (sym same) i.back;
    }
