use Rattle.std.proofs.Common.{◌∙◌, sym}
use Rattle.lw_pbuf.proofs.Taken.{claimed_is_taken, claim_tried, kept_is_taken, kept_tried}
use Rattle.lw_pbuf.proofs.take.take_at.Goals as goal

pub returns-then-counted-clause-some : goal.returns-then-counted-clause-some
returns-then-counted-clause-some c = let e = c.claim.ensures in claimed_is_taken _ _ c.args.kind c.args.place _ e.owner e.some e.sum (sym c.requires.counted ∙ c.if-counted.true)

pub returns-then-counted-clause-tried : goal.returns-then-counted-clause-tried
returns-then-counted-clause-tried c = let e = c.claim.ensures in claim_tried _ _ c.args.kind c.args.place c.claim.result (sym c.requires.counted ∙ c.if-counted.true) e.some e.none e.same

pub returns-clause-some : goal.returns-clause-some
returns-clause-some c = let e = c.take.ensures in kept_is_taken _ _ c.args.kind c.args.place _ e.owner e.rows e.some e.sizes e.free e.found (sym c.requires.counted ∙ c.if-counted.false)

pub returns-clause-tried : goal.returns-clause-tried
returns-clause-tried c = let e = c.take.ensures in kept_tried _ _ c.args.kind c.args.place c.take.result (sym c.requires.counted ∙ c.if-counted.false) e.found e.owner e.rows e.some e.sizes e.none
