use Rattle.std.proofs.Common.{◌-◌, ◌≤◌}
use Rattle.lw_pbuf.specs.Takes.{GivesNone, AreTried, places_of}
use Rattle.lw_pbuf.proofs.take.take_from.Given as goal

abbrev pub invariant-loop-turn : goal.invariant-loop-turn
invariant-loop-turn l = record {
  none : GivesNone l.fn.seat l.seat;
  tried : AreTried l.fn.seat l.seat l.kind (places_of l.fn.seat l.kind) l.fn.turn l.turn;
  below : l.turn ≤ l.end;
}

abbrev pub decreases-loop-turn : goal.decreases-loop-turn
decreases-loop-turn l = l.end - l.turn
