use Rattle.lw_scripts.proofs.Scanning.{answers, no_answer}
use Rattle.lw_scripts.proofs.reader.behind.Goals as goal

pub returns-in-Some : goal.returns-in-Some
returns-in-Some c =
    answers c.args.wanted c.args.place c.args.line.now c.version.result c.in-Some.part c.accept.result c.version.ensures
    (rw c.in-Some.is at c.in_ok-part.ensures) c.accept.ensures

pub returns-in-None : goal.returns-in-None
returns-in-None c =
    no_answer c.args.wanted c.args.place c.args.line.now c.version.result c.version.ensures (rw c.in-None.is at c.in_ok-part.ensures)
