use Rattle.std.proofs.Common.{rules}
use Rattle.lw_mbox.proofs.TakerSteps.{asks_for}
use Rattle.lw_mbox.proofs.Sharing.{deals}
use Rattle.lw_mbox.proofs.taker.Taker.split.Goals as goal

pub compare_exchange-requires : goal.compare_exchange-requires
compare_exchange-requires g c = (search rules, search rules, asks_for g.T.Mail.fits _ _ _ _ _)

pub split_seat-second-requires : goal.split_seat-second-requires
split_seat-second-requires g c = (search rules, search rules, deals g.T.Mail.fits _ _ _ (search rules) (search rules))
