use Rattle.std.proofs.Common.{◌≡◌, take}
use Rattle.lw_payload.specs.Fake.{free_count}
use Rattle.lw_payload.proofs.fake.counts.first_free.Given as goal

abbrev pub invariant-loop-place : goal.invariant-loop-place
invariant-loop-place l = free_count (take l.place l.counts) ≡ 0
