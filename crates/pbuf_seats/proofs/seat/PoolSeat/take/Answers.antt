use Rattle.std.proofs.Common.{ap, arith}
use Rattle.std.specs.Arc.{arc_value}
use Rattle.lw_payload.specs.declared.kinds.Kind.TheVariants.{Pool}
use Rattle.pbuf_seats.specs.Seats.{SeatSeen}
use Rattle.pbuf_seats.proofs.Taking.{seat_took}
use Rattle.pbuf_seats.proofs.seat.PoolSeat.take.Goals as goal

pub invariant_of-self : goal.invariant_of-self
invariant_of-self c =
    let s = c.self.inside in
    let same = ap (λ (q : SeatSeen). q.claimed) c.self.view_is in (
      seat_took (arc_value s.counts) (record { holder = s.holder; kept = s.kept; makes = s.makes; splits = s.splits; claimed = s.claimed }) c.take.new.self c.args.kind c.pool_one.result c.pool_one.ensures
          c.self.invariant.0 (λ pool. let few = c.requires.few pool in omega arith) (c.take.ensures.sizes Pool) c.take.ensures.pool,
      c.self.invariant.1,
    )
