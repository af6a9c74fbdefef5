use Rattle.std.proofs.Common.{◌≡◌, ◌*◌, ◌^◌, ◌≤◌, sum_by, take}
use Rattle.lw_wire.specs.Checksum.{folded, word_sum}
use Rattle.lw_wire.proofs.checksum.sum_words.Given as goal

abbrev pub invariant-loop-word : goal.invariant-loop-word
invariant-loop-word l = record {
  sum : folded (256 * l.sum) ≡ folded (sum_by word_sum (take l.word-index l.words));
  fits : l.sum ≤ l.word-index * 2 ^ 16;
}
