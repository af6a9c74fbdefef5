use Rattle.std.proofs.Common.{rules, ℕ, ap}
use Rattle.atomic_table.specs.Table.{Me}
use Rattle.lw_board.specs.Tokens.{Seen}
use Rattle.lw_board.specs.Law.{trail_of}
use Rattle.lw_board.specs.declared.sight.Sight.{Sight}
use Rattle.lw_board.proofs.Trails.{join_is_later}
use Rattle.lw_board.proofs.Steps.{joins}
use Rattle.lw_board.proofs.board.Look.join.Goals as goal

pub join_seat-requires : goal.join_seat-requires
join_seat-requires g c = search (rules, joins)

pub returns-clause-later : goal.returns-clause-later
returns-clause-later g c = join_is_later (trail_of c.self.inside.seat.me.0) (trail_of c.o.inside.seat.me.0) c.args.self.trail c.args.o.trail (trail_of c.join_seat.new.seat.me.0)
    (ap (λ (l : Seen g.row.F.Denot). l.trail) c.self.view_is) (ap (λ (l : Seen g.row.F.Denot). l.trail) c.o.view_is) (ap (λ (m : Me ℕ (Sight g.row.F.Denot)). trail_of m.0) c.join_seat.ensures.2)
