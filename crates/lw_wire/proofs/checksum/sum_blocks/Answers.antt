use Rattle.std.proofs.Common.{◌≡◌, ◌+◌, ◌*◌, ◌%◌, ◌/◌, ◌^◌, ℕ, ap, ◌∙◌, arith, [], get_or}
use Rattle.lw_wire.specs.Checksum.{folded}
use Rattle.lw_wire.proofs.ChecksumWords.{block_folds, sum_folds_more}
use Rattle.lw_wire.proofs.checksum.sum_blocks.Goals as goal

regrouped : (a b x y : ℕ) → folded (256 * (a + x + (b + y))) ≡ folded (256 * (a + b + (x + y)))
regrouped a b x y = ap folded (omega arith)

pub loop-block-preserved : goal.loop-block-preserved
loop-block-preserved c =
    let i = c.loop-block.block-index in
    let blocks = c.args.blocks.now in
    let low = c.loop-block.low in
    let high = c.loop-block.high in
    let x = c.from_le_bytes-words.result in
    let next = block_folds (get_or blocks i []) x (c.told-blocks i c.loop-block-test.true) c.from_le_bytes-words.ensures in
    record {
      sum = regrouped low high (x % 2 ^ 64) (x / 2 ^ 64)
          ∙ sum_folds_more blocks i (low + high) (x % 2 ^ 64 + x / 2 ^ 64) c.loop-block-test.true c.loop-block.invariant.sum next;
      low = omega arith;
      high = omega arith;
    }
