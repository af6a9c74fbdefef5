use Rattle.lw_payload.specs.declared.kinds.Kind.TheVariants.{Pool}
use Rattle.lw_core.proofs.OwnLaws.{made_owned}
use Rattle.lwip_run.proofs.plain_api.made_frame.Goals as goal

pub returns-in-Ok-clause-owned : goal.returns-in-Ok-clause-owned
returns-in-Ok-clause-owned g c held owned =
    let home_seen = g.P.Payload.home_seen in
    made_owned g.P.Payload.seen (home_seen c.args.home.now) (home_seen c.make.new.home) Pool c.args.octets.now c.in-Ok.payload held
    c.in-Ok.ensures.made c.in-Ok.ensures.keeps.pools c.requires.short owned
