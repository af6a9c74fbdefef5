use Rattle.std.proofs.Common.{rules, ◌+◌, ◌%◌, sym, arith}
use Rattle.lw_mbox.proofs.PosterSteps.{takes_place, idle_again}
use Rattle.lw_mbox.proofs.poster.Poster.post.Goals as goal

pub load-requires : goal.load-requires
load-requires g c = let i = c.self.invariant in let m = c.mbox.invariant in let m₀ = m.0 in let m₂ = m.2 in (search rules, omega arith, takes_place g.T.Mail.fits _ _ _ _ _ i.1 i.2 (search rules) (λ k. 1 + i.3 k % sym m.1 k))

pub invariant_of-self : goal.invariant_of-self
invariant_of-self g c = idle_again c.self.inside.seat.me c.load.new.seat.me c.put.new.seat.me c.self.inside.next c.args.item c.load.ensures.2.0 c.self.invariant c.put.ensures.1 c.put.ensures.2 (search rules)
