use Rattle.std.proofs.Common.{rules}
use Rattle.lw_mbox.proofs.TakerSteps.{loads}
use Rattle.lw_mbox.proofs.Sharing.{joins}
use Rattle.lw_mbox.proofs.taker.Taker.meet.Goals as goal

pub join_seat-requires : goal.join_seat-requires
join_seat-requires g c = (search rules, search rules, search rules, search rules, joins g.T.Mail.fits _ _ _ _ _ (search rules))

pub load-requires : goal.load-requires
load-requires g c = (search rules, search rules, loads g.T.Mail.fits _ _ _ _ (search rules))
