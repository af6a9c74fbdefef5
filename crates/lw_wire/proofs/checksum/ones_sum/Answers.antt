use Rattle.std.proofs.Common.{◌∙◌, refl, arith}
use Rattle.lw_wire.proofs.ChecksumWords.{parts_fold, word_sum-all_chunks}
use Rattle.lw_wire.proofs.checksum.ones_sum.Goals as goal

pub returns : goal.returns
returns c =
    let octets = c.args.octets.now in
    let blocks = c.as_chunks.result.0.now in
    let rest = c.as_chunks.result.1.now in
    let words = c.as_chunks-2.result.0.now in
    let last = c.as_chunks-2.result.1.now in
    let front = word_sum-all_chunks 16 octets rest blocks refl c.as_chunks.ensures.front c.as_chunks.ensures.back in
    let behind = word_sum-all_chunks 2 rest last words refl c.as_chunks-2.ensures.front c.as_chunks-2.ensures.back in
    c.swap_bytes.ensures
    ∙ parts_fold octets rest last blocks words c.sum_blocks.result c.sum_words.result c.sum_last.result c.folded.result
    (λ i. omega (arith, c.type_inv.octets i)) front behind c.sum_blocks.ensures.sum c.sum_words.ensures.sum c.sum_last.ensures.sum c.folded.ensures
