use Rattle.lw_core.proofs.TieLaws.{tied}
use Rattle.lw_core.proofs.step.Core.tie.Goals as goal

pub returns : goal.returns
returns g c = tied g.P.Payload.seen c.self.inside.layers c.args.self.now c.self.view_is c.self.invariant.0 c.tie.ensures
