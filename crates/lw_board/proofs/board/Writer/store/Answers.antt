use Rattle.std.proofs.Common.{suc, ◌-◌, ◌<◌, arith, ap, subst}
use Rattle.atomic_table.specs.Seated.{TableId}
use Rattle.lw_board.proofs.Steps.{stores, of_board}
use Rattle.lw_board.proofs.board.Writer.store.Goals as goal

pub store-requires : goal.store-requires
store-requires g c = let z = c.b.inside.table.shared.table_id in let a = c.b.inside.table.shared.key.about.value in
    let o = of_board c.self.inside.seat c.args.self.now c.args.b.now z (z.words - 1) a c.self.view_is c.requires.own c.b.view_is in let token = c.self.invariant in let count = o.2 in let wide = token.2 in let same = ap (λ (t : TableId). t.words) o.0 in
    let below = c.requires.within in let inside : suc c.args.word < c.self.inside.seat.me.0.past.history.words = omega arith in (
      o.0,
      omega arith,
      stores g.F.Forms.may a z.slots c.self.inside.seat.id c.self.inside.seat.me c.args.word c.args.v o.1 token.1 inside (subst (λ (b : g.row.F.Denot). g.F.Forms.may b c.args.word c.args.v) o.3 c.requires.may),
    )
