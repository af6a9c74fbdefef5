use Rattle.std.proofs.Common.{rules}
use Rattle.lw_mbox.proofs.TakerSteps.{loads}
use Rattle.lw_mbox.proofs.taker.Taker.word.Goals as goal

pub load-requires : goal.load-requires
load-requires g c = (search rules, search rules, loads g.T.Mail.fits _ _ _ _ (search rules))
