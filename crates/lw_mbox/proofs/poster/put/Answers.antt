use Rattle.std.proofs.Common.{rules, ◌∙◌}
use Rattle.lw_mbox.proofs.PosterSteps.{announces_from, announced_from}
use Rattle.lw_mbox.proofs.poster.put.Goals as goal

pub fetch_add-requires : goal.fetch_add-requires
fetch_add-requires g c = let q = c.requires in let h = q.hand in (search rules, search rules, announces_from g.T.Mail.fits _ _ _ _ _ c.args.place c.args.item c.exchange-found.ensures.3 h.2 h.3 h.0 h.1 q.room q.unclosed q.fits)

pub returns : goal.returns
returns g c = let d = announced_from _ _ _ c.args.place c.args.item c.exchange-found.ensures.3 c.requires.hand.2 c.fetch_add.ensures.2 in (c.fetch_add.ensures.0 ∙ c.exchange-found.ensures.0, d.0, d.1)
