use Rattle.std.proofs.Common.{◌∙◌, Some, sym, ap}
use Rattle.lw_arp.specs.Neighbours.{map_entries, sent_by}
use Rattle.lw_layers.proofs.PlanLaws.{releases-as}
use Rattle.lw_layers.proofs.layers.Layers.release.Goals as goal

pub returns-in-Some-clause-exact : goal.returns-in-Some-clause-exact
returns-in-Some-clause-exact g c =
    releases-as c.release.result c.args.self.now.netif c.args.link.now c.release.new.self c.args.learn.now.mac (Some c.as_slice.result.now)
    (sent_by c.args.learn.now (map_entries (λ p. (g.P.Payload.seen p).octets) c.args.self.now.neighbours))
    (ap Some c.as_slice.ensures ∙ sym c.in-Some.is ∙ c.in_ok-packet.ensures) c.release.ensures.exact
