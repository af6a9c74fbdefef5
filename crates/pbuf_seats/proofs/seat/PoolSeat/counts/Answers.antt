use Rattle.std.proofs.Common.{◌≡◌, IfOk, IfSome, sym, ap, ◌∙◌, subst, Global}
use Rattle.std.specs.Arc.{arc_value}
use Rattle.std.specs.declared.option.Option.{Option}
use Rattle.std.specs.declared.sync.Arc.{Arc}
use Rattle.std.proofs.lemmas.List.Elements.{All-pop}
use Rattle.atomic_table.specs.Seated.{TableId}
use Rattle.pbuf_counts.specs.declared.counts.Counts.{Counts}
use Rattle.pbuf_seats.specs.Seats.{SeatSeen}
use Rattle.pbuf_seats.proofs.seat.PoolSeat.counts.Goals as goal
use Rattle.pbuf_seats.proofs.seat.PoolSeat.counts.Goals.{in-Some, in-None}

-- an owner of this table's counts
abbrev IsOf : TableId → Arc Counts Global → Type 0
IsOf t a = arc_value a ≡ t

pub invariant_of-self : goal.invariant_of-self
invariant_of-self c =
    let s = c.self.inside in
    let spare = All-pop (IsOf (arc_value s.counts)) s.spare_counts.items c.pop.new.self.items c.pop.result c.pop.ensures.items c.self.invariant.1 in
    (c.self.invariant.0, spare.0)

pub returns-clause-table : goal.returns-clause-table
returns-clause-table c =
    let s = c.self.inside in
    let spare = All-pop (IsOf (arc_value s.counts)) s.spare_counts.items c.pop.new.self.items c.pop.result c.pop.ensures.items c.self.invariant.1 in
    let table = sym c.self.invariant.0.home ∙ ap (λ (q : SeatSeen). q.holder.table) c.self.view_is in
    elim c.match-pop.branch [
      | in-Some w ↦ rw w.result-is (subst (λ (r : Option (Arc Counts Global)). IfSome r (IsOf (arc_value s.counts))) w.in-Some.is spare.1 ∙ table)
      | in-None w ↦ rw w.result-is (subst (λ (t : TableId). IfOk w.try_clone.result (IsOf t)) table w.try_clone.ensures)
    ]
