use Rattle.std.proofs.Common.{◌++◌, ◌∙◌, List, ap}
use Rattle.lw_reass.specs.Datagrams.{is_over}
use Rattle.lw_reass.specs.Table.{all_kept, joined, kept_where}
use Rattle.lw_layers.proofs.TickLaws.{given_up_moves, given_up_owned}
use Rattle.lw_layers.proofs.tick.age_fragments.Goals as goal

pub spend_all-requires : goal.spend_all-requires
spend_all-requires g c =
    let gone : List g.row.P.Denot = joined (kept_where is_over c.args.fragments.now) in
    record {
      owned = given_up_owned g.P.Payload.seen (g.P.Payload.home_seen c.args.home.now) (all_kept c.args.fragments.now) (all_kept c.age.new.self) gone c.age.new.gone.items
          c.age.ensures.bodies (c.age.ensures.given ∙ ap (λ (ps : List g.row.P.Denot). ps ++ gone) c.requires.empty) c.requires.owned;
    }

pub returns-clause-moves : goal.returns-clause-moves
returns-clause-moves g c =
    let gone : List g.row.P.Denot = joined (kept_where is_over c.args.fragments.now) in
    given_up_moves g.P.Payload.seen (g.P.Payload.home_seen c.args.home.now) (g.P.Payload.home_seen c.spend_all.new.home) (all_kept c.args.fragments.now) (all_kept c.age.new.self) gone c.age.new.gone.items
    c.age.ensures.bodies (c.age.ensures.given ∙ ap (λ (ps : List g.row.P.Denot). ps ++ gone) c.requires.empty) c.spend_all.ensures.moves
