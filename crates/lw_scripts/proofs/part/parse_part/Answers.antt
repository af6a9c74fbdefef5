use Rattle.lw_scripts.proofs.LineLaws.{other_part}
use Rattle.lw_scripts.proofs.part.parse_part.Goals as goal

pub returns-in-None : goal.returns-in-None
returns-in-None c =
    other_part c.args.version c.args.line.now c.parse_other.result (rw c.in-None.is at c.in_ok-call.ensures) c.parse_other.ensures
