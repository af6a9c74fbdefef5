use Rattle.std.proofs.Common.{◌≡◌, ◌+◌, ◌≤◌, [], take}
use Rattle.lw_payload.specs.Fake.{Hands, free_count}
use Rattle.lw_payload.proofs.fake.counts.give_all.Given as goal

abbrev pub invariant-loop-place : goal.invariant-loop-place
invariant-loop-place l = record {
  moves : Hands l.fn.counts l.counts (take l.place-index l.places) [];
  ended : free_count l.counts ≡ free_count l.fn.counts + l.ended;
  few : l.ended ≤ l.place-index;
}
