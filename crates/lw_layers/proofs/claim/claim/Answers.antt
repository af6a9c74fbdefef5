use Rattle.std.proofs.Common.{◌∙◌, Err, length, refl, ap}
use Rattle.lw_layers.proofs.BothLaws.{claimed_made, refused_made}
use Rattle.lw_layers.proofs.claim.claim.Goals as goal

pub returns-in-Ok-clause-claimed : goal.returns-in-Ok-clause-claimed
returns-in-Ok-clause-claimed g c =
    claimed_made g.P.Payload.seen (g.P.Payload.home_seen c.args.home.now) (g.P.Payload.home_seen c.make.new.home) c.args.kind c.args.octets.now c.in-Ok.payload
    c.requires.short c.requires.kind c.requires.some c.make.ensures.keeps c.in-Ok.ensures.made (c.in-Ok.ensures.enough refl)

pub returns-in-Err-Empty-clause-claimed : goal.returns-in-Err-Empty-clause-claimed
returns-in-Err-Empty-clause-claimed g c =
    let h = g.P.Payload.home_seen c.args.home.now in
    let k = g.P.Payload.home_seen c.make.new.home in
    let kind = c.in-Err-Empty.field-0-0 in
    let is = c.in-Err-Empty.is ∙ ap Err c.in-Err-Empty.field-0-is in
    let empty = c.make.ensures.empty kind is in
    refused_made g.P.Payload.may_refuse c.args.home.now c.make.new.home h k c.args.kind (length c.args.octets.now) c.requires.kind c.requires.some
    c.make.ensures.keeps empty.1 empty.2 (c.make.ensures.kept_short kind is)
