use Rattle.std.proofs.Common.{refl}
use Rattle.lw_layers.proofs.PlanLaws.{nothing_planned}
use Rattle.lw_layers.specs.Layers.{state_of}
use Rattle.lw_layers.proofs.layers.Layers.plan.Goals as goal

pub returns-in-Nothing : goal.returns-in-Nothing
returns-in-Nothing g c =
    let s = state_of g.P.Payload.seen c.args.self.now in
    nothing_planned s c.args.octets.now c.args.arrival.now c.new.result c.in-Nothing.is (c.new.ensures.exact s.link refl) c.new.ensures.waits
