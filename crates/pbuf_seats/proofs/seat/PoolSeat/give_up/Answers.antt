use Rattle.std.specs.Arc.{arc_value}
use Rattle.lw_payload.specs.declared.kinds.Kind.TheVariants.{Pool}
use Rattle.pbuf_seats.proofs.Taking.{seat_gave}
use Rattle.pbuf_seats.proofs.seat.PoolSeat.give_up.Goals as goal

pub invariant_of-self : goal.invariant_of-self
invariant_of-self c =
    let s = c.self.inside in (
      seat_gave (arc_value s.counts) (record { holder = s.holder; kept = s.kept; makes = s.makes; splits = s.splits; claimed = s.claimed }) c.give.new.self c.self.invariant.0 (c.give.ensures.sizes Pool) c.give.ensures.pool,
      c.self.invariant.1,
    )
