use Rattle.std.proofs.Common.{◌≡◌, [], take}
use Rattle.lw_payload.specs.Fake.{Hands, free_count}
use Rattle.lw_payload.proofs.fake.counts.add_all.Given as goal

abbrev pub invariant-loop-place : goal.invariant-loop-place
invariant-loop-place l = record {
  moves : Hands l.fn.counts l.counts [] (take l.place-index l.places);
  free : free_count l.counts ≡ free_count l.fn.counts;
}
