use Rattle.std.proofs.Common.{rules, refl}
use Rattle.lw_mbox.proofs.PosterSteps.{sets, still_idle}
use Rattle.lw_mbox.specs.declared.view.Change.TheVariants.{Set}
use Rattle.lw_mbox.proofs.poster.Poster.set.Goals as goal

pub fetch_or-requires : goal.fetch_or-requires
fetch_or-requires g c = (search rules, search rules, sets g.T.Mail.fits _ _ _ _ c.args.flag _ (search rules) (search rules) (search rules))

pub invariant_of-self : goal.invariant_of-self
invariant_of-self g c = let f = c.fetch_or.ensures.2 in still_idle _ _ _ (Set _) _ refl f.0 f.1 c.self.invariant
