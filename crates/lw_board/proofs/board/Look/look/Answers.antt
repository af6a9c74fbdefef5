use Rattle.std.proofs.Common.{rules, ℕ, ap}
use Rattle.atomic_table.specs.Table.{Me}
use Rattle.lw_board.specs.Tokens.{Seen}
use Rattle.lw_board.specs.Law.{trail_of}
use Rattle.lw_board.specs.declared.sight.Sight.{Sight}
use Rattle.lw_board.proofs.Trails.{look_is_later}
use Rattle.lw_board.proofs.Steps.{looks}
use Rattle.lw_board.proofs.board.Look.look.Goals as goal

pub load-requires : goal.load-requires
load-requires g c = search (rules, looks)

pub returns-clause-later : goal.returns-clause-later
returns-clause-later g c = look_is_later (trail_of c.self.inside.seat.me.0) c.args.self.now.trail (trail_of c.load.new.seat.me.0) c.args.word c.load.result
    (ap (λ (l : Seen g.row.F.Denot). l.trail) c.self.view_is) (ap (λ (m : Me ℕ (Sight g.row.F.Denot)). trail_of m.0) c.load.ensures.2.0)
