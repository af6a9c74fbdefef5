use Rattle.std.proofs.Common.{◌≡◌, ◌+◌, ◌≤◌}
use Rattle.bench_pbuf.proofs.rounds.rounds.Given as goal

abbrev pub invariant-loop-round : goal.invariant-loop-round
invariant-loop-round g l = let seen = g.P.Payload.home_seen in record {
  pools : (seen l.home).pools ≡ (seen l.fn.home).pools;
  counts : (seen l.home).counts.made + (seen l.home).counts.refused ≤ (seen l.fn.home).counts.made + (seen l.fn.home).counts.refused + l._round;
}
