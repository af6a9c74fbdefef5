use Rattle.std.proofs.Common.{ℕ, ◌+◌, eqb, ap, ◌∙◌, arith}
use Rattle.pbuf_counts.specs.Holders.{Known}
use mir.Val.{bool_byte}
use Rattle.pbuf_seats.proofs.Looks.{one_more, bit, bit_small}
use Rattle.pbuf_seats.proofs.seat.look_over.Goals as goal

pub loop-i-preserved : goal.loop-i-preserved
loop-i-preserved c = let q = c.loop-i.invariant in let e = c.look.ensures in let f = c.from-free.ensures in let m = q.most in record {
  own = ap (λ (k : Known). k.table) e.found ∙ q.own;
  looks = one_more _ _ _ _ _ c.look.result _ q.looks e.found (ap (λ (n : ℕ). c.loop-i.free + n) (f ∙ bit (eqb c.look.result 0)));
  most = let b = bit_small (eqb c.look.result 0) in omega arith;
  weighs = ap (λ (k : Known). k.weight) e.found ∙ q.weighs;
  owns = ap (λ (k : Known). k.owners) e.found ∙ q.owns;
  all = λ w o. let z = e.free (q.weighs ∙ w) (q.owns ∙ o) in let a = q.all w o in let b = ap (λ (n : ℕ). bool_byte (eqb n 0)) z in omega arith;
}
