use Rattle.std.proofs.Common.{rules, Some}
use Rattle.lw_mbox.proofs.TakerSteps.{empties_from, one_slot}
use Rattle.lw_mbox.proofs.taker.take.Goals as goal

pub exchange-requires : goal.exchange-requires
exchange-requires g c = let s = c.requires.slot in (c.requires.table.0, (Some s.0, one_slot _ _ _ s.1))

pub store-requires : goal.store-requires
store-requires g c = let s = c.requires.slot in (search rules, search rules, empties_from g.T.Mail.fits _ _ _ _ _ c.args.capacity c.args.ticket s.0 c.exchange.ensures.3 s.1 c.requires.holds c.requires.table.2)
