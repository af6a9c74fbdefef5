use Rattle.std.proofs.Common.{◌≡◌, ◌+◌, ◌≤◌}
use Rattle.lw_payload.specs.Totals.{total, IsOwned}
use Rattle.lw_layers.specs.Boxes.{AreBoxesOf}
use Rattle.lw_core.specs.Held.{held_by}
use Rattle.bench_core.proofs.rounds.rounds.Given as goal

abbrev pub invariant-loop-fed : goal.invariant-loop-fed
invariant-loop-fed g l = let seen = g.P.Payload.home_seen in record {
  owned : IsOwned (seen l.home) (total g.P.Payload.seen (seen l.home).pools.family (held_by l.core));
  pools : (seen l.home).pools ≡ (seen l.fn.home).pools;
  boxes : AreBoxesOf l.core.state.endpoints.conns (g.B.Boxes.seen l.boxes);
  terms : g.B.Boxes.terms l.boxes ≡ g.B.Boxes.terms l.fn.boxes;
  counts : (seen l.home).counts.made + (seen l.home).counts.refused ≤ (seen l.fn.home).counts.made + (seen l.fn.home).counts.refused + l._fed;
}
