use Rattle.std.proofs.Common.{◌≡◌, ℕ, ◌+◌, ◌<◌, ◌≤◌, get_or, [], length, vec_capacity}
use Rattle.lw_payload.specs.Fake.{Hands, times, free_count}
use Rattle.lw_payload.proofs.fake.counts.take.Given as goal

abbrev pub invariant-loop : goal.invariant-loop
invariant-loop l = record {
  moves : Hands l.fn.counts l.counts [] l.places.items;
  free : free_count l.counts + length l.places.items ≡ free_count l.fn.counts;
  all : length l.places.items ≡ l.counter;
  alone : (place : ℕ) → 0 < times place l.places.items → get_or l.fn.counts place 0 ≡ 0;
  room : l.needed ≤ vec_capacity l.places;
}
