use Rattle.std.proofs.Common.{rules}
use Rattle.lw_mbox.proofs.TakerSteps.{tells_all}
use Rattle.lw_mbox.proofs.Sharing.{gathers}
use Rattle.lw_mbox.proofs.poster.Poster.gather.Goals as goal

pub join_seat-requires : goal.join_seat-requires
join_seat-requires g c = (search rules, search rules, search rules, search rules, gathers g.T.Mail.fits _ _ _ _ _)

pub load-requires : goal.load-requires
load-requires g c = (search rules, search rules, tells_all g.T.Mail.fits _ _ _ _ (search rules))
