use Rattle.std.proofs.Common.{◌∙◌, [], get_or, arith}
use Rattle.lw_wire.proofs.ChecksumWords.{sum_folds_more, word_folds}
use Rattle.lw_wire.proofs.checksum.sum_words.Goals as goal

pub loop-word-preserved : goal.loop-word-preserved
loop-word-preserved c =
    let i = c.loop-word.word-index in
    let words = c.args.words.now in
    let x = c.from-sum.result in
    let next = word_folds (get_or words i []) x (c.told-words i c.loop-word-test.true) (c.from-sum.ensures ∙ c.from_le_bytes.ensures) in
    record {
      sum = sum_folds_more words i c.loop-word.sum x c.loop-word-test.true c.loop-word.invariant.sum next;
      fits = omega arith;
    }
