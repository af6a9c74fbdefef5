use Rattle.std.proofs.Common.{◌≡◌, sym, ap, ◌∙◌, Global}
use Rattle.std.specs.Arc.{arc_value}
use Rattle.std.specs.declared.sync.Arc.{Arc}
use Rattle.std.proofs.lemmas.List.Elements.{All-push, All-same}
use Rattle.pbuf_counts.specs.declared.counts.Counts.{Counts}
use Rattle.pbuf_seats.specs.Seats.{SeatSeen}
use Rattle.pbuf_seats.proofs.seat.PoolSeat.keep_counts.Goals as goal

pub invariant_of-self : goal.invariant_of-self
invariant_of-self c =
    let s = c.self.inside in
    let of_seat : Arc Counts Global → Type 0 = λ a. arc_value a ≡ arc_value s.counts in
    let own = c.requires ∙ (sym (ap (λ (q : SeatSeen). q.holder.table) c.self.view_is) ∙ c.self.invariant.0.home) in
    (c.self.invariant.0, All-same of_seat _ _ c.push_reserved.ensures.items (All-push of_seat s.spare_counts.items c.args.counts c.self.invariant.1 own))
