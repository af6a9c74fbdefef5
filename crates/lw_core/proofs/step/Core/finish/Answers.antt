use Rattle.std.proofs.Common.{◌++◌, ◌∙◌, List, sym, ap}
use Rattle.lw_arp.specs.Neighbours.{packets}
use Rattle.lw_reass.specs.Table.{all_kept}
use Rattle.lw_core.specs.Held.{held_by}
use Rattle.lw_core.proofs.WaitLaws.{both_parts, first_part_owned, second_part_owned}
use Rattle.lw_core.proofs.step.Core.finish.Goals as goal

pub spend_waiting-requires : goal.spend_waiting-requires
spend_waiting-requires g c = record {
  owned = first_part_owned g.P.Payload.seen (g.P.Payload.home_seen c.args.home.now) (held_by c.args.self) (packets c.self.inside.layers.neighbours) (all_kept c.self.inside.layers.fragments) (packets c.into_vec.result.items)
      (ap held_by (sym c.self.view_is)) (ap packets c.into_vec.ensures) c.requires.owned;
}

pub spend_all-requires : goal.spend_all-requires
spend_all-requires g c = record {
  owned = second_part_owned g.P.Payload.seen (g.P.Payload.home_seen c.args.home.now) (g.P.Payload.home_seen c.spend_waiting.new.home) (held_by c.args.self) (packets c.self.inside.layers.neighbours) (all_kept c.self.inside.layers.fragments)
      (packets c.into_vec.result.items) c.finish.new.gone.items (ap held_by (sym c.self.view_is)) (ap packets c.into_vec.ensures)
      (c.finish.ensures ∙ ap (λ (ps : List g.row.P.Denot). ps ++ all_kept c.self.inside.layers.fragments) c.in_ok-kept.ensures.items) c.requires.owned c.spend_waiting.ensures.moves;
}

pub returns : goal.returns
returns g c = record {
  moves = both_parts g.P.Payload.seen (g.P.Payload.home_seen c.args.home.now) (g.P.Payload.home_seen c.spend_waiting.new.home) (g.P.Payload.home_seen c.spend_all.new.home) (held_by c.args.self) (packets c.self.inside.layers.neighbours)
      (all_kept c.self.inside.layers.fragments) (packets c.into_vec.result.items) c.finish.new.gone.items (ap held_by (sym c.self.view_is)) (ap packets c.into_vec.ensures)
      (c.finish.ensures ∙ ap (λ (ps : List g.row.P.Denot). ps ++ all_kept c.self.inside.layers.fragments) c.in_ok-kept.ensures.items) c.spend_waiting.ensures.moves c.spend_all.ensures.moves;
}
