use Rattle.std.proofs.Common.{rules, ◌≡◌, ◌+◌, ◌%◌, sym, arith}
use Rattle.lw_mbox.proofs.PosterSteps.{looks}
use Rattle.lw_mbox.proofs.poster.Poster.has_place.Goals as goal

pub load-found-requires : goal.load-found-requires
load-found-requires g c = let i = c.self.invariant in let i₃ = i.3 in let i₄ = i.4 in let m = c.mbox.invariant in let m₀ = m.0 in let m₁ = m.1 in let m₂ = m.2 in let m₃ = m.3 in let a = c.requires.ahead in let same : c.args.mbox.now.capacity ≡ c.mbox.inside.capacity = search rules in
    (search rules, omega arith, looks g.T.Mail.fits _ _ _ _ _ (c.self.inside.next + c.args.ahead) i.1 (omega arith) (omega arith) (omega arith) (λ k. 1 + (c.self.inside.next + c.args.ahead) % sym m.1 k))

pub overflow_add-ticket : goal.overflow_add-ticket
overflow_add-ticket g c = let i = c.self.invariant in let i₄ = i.4 in let m = c.mbox.invariant in let m₃ = m.3 in let a = c.requires.ahead in let same : c.args.mbox.now.capacity ≡ c.mbox.inside.capacity = search rules in omega arith
