use Rattle.script_words.specs.Words.{left}
use Rattle.lw_scripts.proofs.SizeLaws.{size_missing}
use Rattle.lw_scripts.proofs.lines.parse_size.Goals as goal

pub returns-in_err-size : goal.returns-in_err-size
returns-in_err-size c =
    rw c.from_residual-in_err-size.ensures
    (size_missing (left c.args.words) (left c.in_ok-word.words) (left c.in_ok-name.words) c.in_ok-word.word.now c.in_ok-name.name.now c.in_ok-name-2.name
    c.least.result c.most.result c.in_ok-word.ensures c.in_ok-name.ensures c.in_ok-name-2.ensures c.least.ensures c.most.ensures c.in_err-size.ensures)
