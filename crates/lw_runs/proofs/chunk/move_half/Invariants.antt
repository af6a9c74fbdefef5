use Rattle.std.proofs.Common.{◌≡◌, ◌+◌, ◌≤◌, ◌++◌, length, reverse, vec_capacity}
use Rattle.lw_runs.proofs.chunk.move_half.Given as goal

abbrev pub invariant-loop-back : goal.invariant-loop-back
invariant-loop-back g l =
    record {
      all : l.chunk.items ++ reverse l.back.items ≡ l.initial.chunk.items;
      number : length l.chunk.items + length l.back.items ≡ 32;
      least : 16 ≤ length l.chunk.items;
      front_room : vec_capacity l.chunk ≡ vec_capacity l.initial.chunk;
      back_room : vec_capacity l.back ≡ vec_capacity l.initial.back;
    }

abbrev pub decreases-loop-back : goal.decreases-loop-back
decreases-loop-back g l = length l.chunk.items
