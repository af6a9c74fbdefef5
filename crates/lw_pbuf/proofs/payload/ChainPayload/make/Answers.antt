use Rattle.std.proofs.Common.{rules, length}
use Rattle.lw_pbuf.specs.Makes.{IsDenied}
use Rattle.lw_pbuf.proofs.Homing.{made_law, enough_law, keeps_law, short_law}
use Rattle.lw_pbuf.proofs.payload.ChainPayload.make.Goals as goal

pub returns-in-Ok-clause-made : goal.returns-in-Ok-clause-made
returns-in-Ok-clause-made c = made_law c.args.home.now c.pbuf_alloc.new.seat c.args.kind c.args.octets.now c.in-Ok.chain c.in-Ok.ensures.made c.pbuf_alloc.ensures.keeps

pub returns-in-Ok-clause-enough : goal.returns-in-Ok-clause-enough
returns-in-Ok-clause-enough c = λ ok. enough_law c.args.home.now c.args.kind (length c.args.octets.now) c.in-Ok.ensures.made.enough

pub returns-in-Ok-clause-keeps : goal.returns-in-Ok-clause-keeps
returns-in-Ok-clause-keeps c = keeps_law c.args.home.now c.pbuf_alloc.new.seat c.args.kind (length c.args.octets.now) c.pbuf_alloc.ensures.keeps

pub returns-in-Err-PoolEmpty-clause-kept_short : goal.returns-in-Err-PoolEmpty-clause-kept_short
returns-in-Err-PoolEmpty-clause-kept_short c =
    let denied : IsDenied c.args.home.now c.pbuf_alloc.new.seat c.args.kind (length c.args.octets.now) = search rules in
    λ k e some. short_law c.args.home.now c.args.kind (length c.args.octets.now) some denied.short

pub returns-in-Err-PoolEmpty-clause-keeps : goal.returns-in-Err-PoolEmpty-clause-keeps
returns-in-Err-PoolEmpty-clause-keeps c = keeps_law c.args.home.now c.pbuf_alloc.new.seat c.args.kind (length c.args.octets.now) c.pbuf_alloc.ensures.keeps
