use Rattle.std.proofs.Common.{◌≡◌, Some, length, sym, ap}
use Rattle.lw_events.specs.declared.event.Event.TheVariants.{Close}
use Rattle.lw_layers.proofs.CallLaws.{close_vars}
use Rattle.lw_core.proofs.QuietLaws.{quiet_answer, quiet_sound}
use Rattle.lw_core.proofs.step.Core.close.Goals as goal

pub returns-clause-ok : goal.returns-clause-ok
returns-clause-ok g c =
    quiet_answer g.P.Payload.seen c.self.inside.layers c.close-reply.new.self c.args.self.now c.args.actor (Close c.args.conn) c.close-reply.result c.quiet.result c.self.view_is
    (ap Some (sym c.close-reply.ensures.exact)) c.close-reply.ensures.rest c.quiet.ensures

pub invariant_of-self : goal.invariant_of-self
invariant_of-self g c =
    quiet_sound g.P.Payload.seen c.self.inside.layers c.close-reply.new.self c.close-reply.ensures.rest
    (ap length (close_vars c.self.inside.layers.endpoints c.close-reply.new.self.endpoints c.args.conn c.close-reply.result c.close-reply.ensures.exact)) c.self.invariant
