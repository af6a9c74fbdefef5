use Rattle.lw_arp.specs.Neighbours.{packets}
use Rattle.lw_payload.specs.Totals.{total, Moves}
use Rattle.lw_core.proofs.step.spend_waiting.Given as goal

abbrev pub invariant-loop-entry : goal.invariant-loop-entry
invariant-loop-entry g l =
    let seen = g.P.Payload.seen in
    let h = g.P.Payload.home_seen l.fn.home in
    record {
      moves : Moves h (g.P.Payload.home_seen l.home) (total seen h.pools.family (packets l.fn.entries.items)) (total seen h.pools.family (packets l.entry-iterator.rest.items));
    }
