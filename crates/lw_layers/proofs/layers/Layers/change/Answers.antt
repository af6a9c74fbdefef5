use Rattle.std.proofs.Common.{◌∙◌, sym, ap}
use Rattle.lw_arp.specs.Neighbours.{map_entries}
use Rattle.lw_arp.proofs.MapLaws.{taught-map_entries}
use Rattle.lw_layers.specs.declared.plan.Change.{Change}
use Rattle.lw_layers.specs.Layers.{link_with, state_of}
use Rattle.lw_layers.proofs.layers.Layers.change.Goals as goal

pub returns-in-Learn-clause-neighbours : goal.returns-in-Learn-clause-neighbours
returns-in-Learn-clause-neighbours g c =
    ap (map_entries (λ p. (g.P.Payload.seen p).octets)) c.learn.ensures.table
    ∙ sym (taught-map_entries (λ p. (g.P.Payload.seen p).octets) c.in-Learn.plan.lesson c.args.self.now.neighbours c.in-Learn.plan.ip c.in-Learn.plan.mac)
    ∙ ap (λ (ch : Change). (link_with (state_of g.P.Payload.seen c.args.self.now).link ch).neighbours) (sym c.in-Learn.is)
