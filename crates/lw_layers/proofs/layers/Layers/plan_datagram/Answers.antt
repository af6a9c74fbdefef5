use Rattle.std.proofs.Common.{refl}
use Rattle.lw_link.proofs.PlanLaws.{over_table}
use Rattle.lw_input.specs.Input.{begun}
use Rattle.lw_input.specs.State.{State}
use Rattle.lw_layers.specs.Layers.{state_of}
use Rattle.lw_layers.proofs.SendLaws.{planned_out}
use Rattle.lw_layers.proofs.layers.Layers.plan_datagram.Goals as goal

pub returns-clause-plan : goal.returns-clause-plan
returns-clause-plan g c =
    let s : State = state_of g.P.Payload.seen c.args.self.now in
    planned_out s c.args.plan.now c.args.octets.now c.new.result c.udp_octets-front.result c.net-net.result.now c.args.plan.now.to.0 c.udp_head.result c.sent_head.result c.emit.new.self
    c.net-net.ensures refl c.udp_head.ensures c.sent_head.ensures.head c.udp_octets-front.ensures.exact c.new.ensures
    (c.in_ok-emit.ensures.exact s.link (begun s) (over_table (λ p. (g.P.Payload.seen p).octets) s.link c.args.self.now.neighbours s.link.net refl refl) (c.new-link.ensures.exact s.link refl))
