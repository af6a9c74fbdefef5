use Rattle.std.proofs.Common.{rules, ℕ, ap}
use Rattle.atomic_table.specs.Table.{Me}
use Rattle.lw_board.specs.Tokens.{Written}
use Rattle.lw_board.specs.Law.{stores_of, trail_of}
use Rattle.lw_board.specs.declared.sight.Sight.{Sight}
use Rattle.lw_board.proofs.Trails.{note_stands}
use Rattle.lw_board.proofs.Steps.{notes}
use Rattle.lw_board.proofs.board.Writer.note.Goals as goal

pub split_seat-requires : goal.split_seat-requires
split_seat-requires g c = search (rules, notes)

pub returns-clause-place : goal.returns-clause-place
returns-clause-place g c = note_stands (stores_of c.self.inside.seat.me.0) c.args.self.now.stores (trail_of c.split_seat.result.me.0)
    (ap (λ (w : Written g.row.F.Denot). w.stores) c.self.view_is) (ap (λ (m : Me ℕ (Sight g.row.F.Denot)). trail_of m.0) c.split_seat.ensures.4)
