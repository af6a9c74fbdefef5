use Rattle.std.proofs.Common.{◌∙◌, [], ap, sym}
use Rattle.lw_base.specs.declared.addresses.Net.{Net}
use Rattle.lw_arp.specs.Neighbours.{learn_plan}
use Rattle.lw_arp.proofs.MapLaws.{learn_plan-map_entries}
use Rattle.lw_link.specs.Way.{arp_answer}
use Rattle.lw_layers.proofs.PlanLaws.{arp_planned}
use Rattle.lw_layers.specs.Layers.{state_of}
use Rattle.lw_layers.proofs.layers.Layers.arp_plan.Goals as goal

pub returns : goal.returns
returns g c =
    let packet = c.args.packet.now in
    arp_planned (state_of g.P.Payload.seen c.args.self.now) c.args._octets.now packet c.plan_learn-learn.result c.release.new.link
    (c.plan_learn-learn.ensures ∙ ap (λ (n : Net). learn_plan n.ip c.args.self.now.neighbours packet) c.net.ensures ∙ sym (learn_plan-map_entries (λ p. (g.P.Payload.seen p).octets) c.args.self.now.netif.ip c.args.self.now.neighbours packet))
    (λ l net id. c.in_ok-release.ensures.exact l (arp_answer (record { link = l; out = [] }) packet) net (c.in_ok-answer.ensures.exact l (record { link = l; out = [] }) net (c.new-link.ensures.exact l id)))
    (c.release.ensures.waits ∙ c.answer.ensures.waits ∙ c.new-link.ensures.waits)
