use Rattle.std.proofs.Common.{rules, ◌-◌, ◌∙◌}
use Rattle.lw_board.proofs.Steps.{gathers, finds, of_board, places_found, leads_after}
use Rattle.lw_board.proofs.board.Writer.gather.Goals as goal

pub join_seat-requires : goal.join_seat-requires
join_seat-requires g c = search (rules, gathers)

pub load-requires : goal.load-requires
load-requires g c = let z = c.b.inside.table.shared.table_id in let a = c.b.inside.table.shared.key.about.value in
    let o = of_board c.self.inside.seat c.args.self.now c.args.b.now z (z.words - 1) a c.self.view_is c.requires.own c.b.view_is in let after = c.join_seat.ensures in (
      after.0 ∙ o.0,
      c.b.invariant,
      finds g.F.Forms.may a z.slots c.join_seat.new.seat.id c.join_seat.new.seat.me 0 (leads_after _ c.join_seat.new.seat.me after.2 c.self.invariant.1),
    )

pub returns-clause-places : goal.returns-clause-places
returns-clause-places g c = let told = c.load.ensures.2 in places_found c.join_seat.new.seat.me c.load.new.seat.me told.0 told.1
