use Rattle.std.proofs.Common.{rules, refl}
use Rattle.lw_mbox.proofs.PosterSteps.{clears, still_idle}
use Rattle.lw_mbox.specs.declared.view.Change.TheVariants.{Clear}
use Rattle.lw_mbox.proofs.poster.Poster.clear.Goals as goal

pub fetch_and-requires : goal.fetch_and-requires
fetch_and-requires g c = (search rules, search rules, clears g.T.Mail.fits _ _ _ _ c.args.flag _ (search rules) (search rules) (search rules) (search rules))

pub invariant_of-self : goal.invariant_of-self
invariant_of-self g c = let f = c.fetch_and.ensures.2 in still_idle _ _ _ (Clear _) _ refl f.0 f.1 c.self.invariant
