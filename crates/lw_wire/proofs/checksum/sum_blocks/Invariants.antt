use Rattle.std.proofs.Common.{◌≡◌, ◌+◌, ◌*◌, ◌^◌, ◌≤◌, sum_by, take}
use Rattle.lw_wire.specs.Checksum.{folded, word_sum}
use Rattle.lw_wire.proofs.checksum.sum_blocks.Given as goal

abbrev pub invariant-loop-block : goal.invariant-loop-block
invariant-loop-block l = record {
  sum : folded (256 * (l.low + l.high)) ≡ folded (sum_by word_sum (take l.block-index l.blocks));
  low : l.low ≤ l.block-index * 2 ^ 64;
  high : l.high ≤ l.block-index * 2 ^ 64;
}
