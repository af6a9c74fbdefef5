use Rattle.lw_arp.specs.Neighbours.{packets}
use Rattle.lw_layers.proofs.TickLaws.{left_owned, left_spent}
use Rattle.lw_layers.proofs.tick.age_neighbours.Goals as goal

pub spend_all-requires : goal.spend_all-requires
spend_all-requires g c = record {
  owned = left_owned g.P.Payload.seen (g.P.Payload.home_seen c.args.home.now) (packets c.args.table.now) (packets c.age.new.self) c.age.new.gone.items c.args.gone.items c.requires.empty c.age.ensures.kept c.requires.owned;
}

pub returns-clause-moves : goal.returns-clause-moves
returns-clause-moves g c =
    left_spent g.P.Payload.seen (g.P.Payload.home_seen c.args.home.now) (g.P.Payload.home_seen c.spend_all.new.home) (packets c.args.table.now) (packets c.age.new.self) c.age.new.gone.items c.args.gone.items
    c.requires.empty c.age.ensures.kept c.spend_all.ensures.moves
