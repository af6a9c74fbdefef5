use Rattle.std.proofs.Common.{rules}
use Rattle.lw_mbox.proofs.TakerSteps.{tallies}
use Rattle.lw_mbox.proofs.Sharing.{joins, once_joined}
use Rattle.lw_mbox.proofs.taker.Taker.join.Goals as goal

pub join_seat-requires : goal.join_seat-requires
join_seat-requires g c = (search rules, search rules, search rules, search rules, joins g.T.Mail.fits _ _ _ _ _ (search rules))

pub load-requires : goal.load-requires
load-requires g c = (search rules, search rules, tallies g.T.Mail.fits _ _ _ _)

pub returns-clause-once : goal.returns-clause-once
returns-clause-once g c = once_joined g.T.Mail.fits c.mbox.inside.table.shared.key c.self.inside.seat.me c.join_seat.new.seat.me c.other.inside.seat.me.0 c.args.self.got c.args.other.got c.join_seat.ensures.2 (search rules) (search rules) c.load.ensures.2.1
