use Rattle.std.proofs.Common.{rules}
use Rattle.lw_mbox.proofs.TakerSteps.{sets_rest, clears_rest}
use Rattle.lw_mbox.proofs.taker.Taker.rest.Goals as goal

pub fetch_or-found-requires : goal.fetch_or-found-requires
fetch_or-found-requires g c = (search rules, search rules, sets_rest g.T.Mail.fits _ _ _ _ (search rules) (search rules))

pub fetch_and-found-requires : goal.fetch_and-found-requires
fetch_and-found-requires g c = (search rules, search rules, clears_rest g.T.Mail.fits _ _ _ _ (search rules))
