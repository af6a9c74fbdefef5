use Rattle.lw_layers.proofs.BothLaws.{both_claimed, second_refused}
use Rattle.lw_layers.proofs.ClaimLaws.{in_none, in_some}
use Rattle.lw_layers.proofs.claim.claim_both.Goals as goal

pub returns-in-Ok-Some-clause-claimed : goal.returns-in-Ok-Some-clause-claimed
returns-in-Ok-Some-clause-claimed g c =
    both_claimed g.P.Payload.seen c.args.kind (g.P.Payload.home_seen c.args.home.now) (g.P.Payload.home_seen c.claim.new.home) (g.P.Payload.home_seen c.claim_for.new.home) c.in-Some.rom c.in-Ok-Some.ram
    (in_some _ _ c.in_ok-rom.field-0 c.in-Some.rom c.in-Some.is c.in_ok-rom.ensures.claimed)
    (in_some _ _ c.in-Ok-Some.field-0 c.in-Ok-Some.ram c.in-Ok-Some.field-0-is c.in-Ok-Some.ensures.claimed)

pub returns-in-Ok-None-clause-claimed : goal.returns-in-Ok-None-clause-claimed
returns-in-Ok-None-clause-claimed g c =
    second_refused g.P.Payload.seen g.P.Payload.may_refuse c.claim.new.home c.args.kind (g.P.Payload.home_seen c.args.home.now) (g.P.Payload.home_seen c.claim.new.home) (g.P.Payload.home_seen c.claim_for.new.home) (g.P.Payload.home_seen c.spend.new.home) c.in-Some.rom
    c.requires.kind
    (in_some _ _ c.in_ok-rom.field-0 c.in-Some.rom c.in-Some.is c.in_ok-rom.ensures.claimed)
    (in_none _ _ c.in-Ok-None.field-0 c.in-Ok-None.field-0-is c.in-Ok-None.ensures.claimed)
    c.spend.ensures.moves
