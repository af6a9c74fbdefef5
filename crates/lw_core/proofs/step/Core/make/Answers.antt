use Rattle.std.proofs.Common.{◌≡◌, Some, length, List, Option, sym, ap}
use Rattle.lw_events.specs.declared.event.Event.TheVariants.{New}
use Rattle.lw_events.specs.declared.event.Proto.TheVariants.{Udp}
use Rattle.lw_api_msg.specs.Endpoints.{Table}
use Rattle.lw_layers.proofs.CallLaws.{new_vars}
use Rattle.lw_core.proofs.QuietLaws.{quiet_answer, quiet_same, quiet_sound}
use Rattle.lw_core.proofs.step.Core.make.Goals as goal

pub returns-clause-ok : goal.returns-clause-ok
returns-clause-ok g c =
    quiet_answer g.P.Payload.seen c.self.inside.layers c.new_udp.new.self c.args.self.now c.args.actor (New Udp) c.in_ok-reply.reply c.quiet.result c.self.view_is
    (ap Some (sym c.in_ok-reply.ensures.exact)) c.new_udp.ensures.rest c.quiet.ensures

pub invariant_of-self : goal.invariant_of-self
invariant_of-self g c =
    quiet_sound g.P.Payload.seen c.self.inside.layers c.new_udp.new.self c.new_udp.ensures.rest
    (ap length (ap (λ (e : Table). e.vars) c.in_err-reply.ensures.err.0)) c.self.invariant

pub invariant_of-self-2 : goal.invariant_of-self-2
invariant_of-self-2 g c =
    quiet_sound g.P.Payload.seen c.self.inside.layers c.new_udp.new.self c.new_udp.ensures.rest
    (ap length (new_vars c.self.inside.layers.limits c.self.inside.layers.endpoints c.new_udp.new.self.endpoints c.in_ok-reply.reply c.in_ok-reply.ensures.exact)) c.self.invariant
