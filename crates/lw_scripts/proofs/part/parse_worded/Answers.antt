use Rattle.script_words.specs.Words.{left}
use Rattle.lw_scripts.proofs.LineLaws.{last_part}
use Rattle.lw_scripts.proofs.part.parse_worded.Goals as goal

pub returns-in-None : goal.returns-in-None
returns-in-None c = λ fixed.
    last_part c.args.version c.args.line.now (left c.of.result) c.parse_named.result c.of.ensures fixed c.in-None.ensures c.parse_named.ensures
