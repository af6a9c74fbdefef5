use Rattle.lw_core.proofs.QuietLaws.{quiet_end}
use Rattle.lw_core.proofs.step.Core.end.Goals as goal

pub returns-clause-ok : goal.returns-clause-ok
returns-clause-ok g c = quiet_end g.P.Payload.seen c.self.inside.layers c.args.self.now c.args.actor c.quiet.result c.self.view_is c.quiet.ensures
