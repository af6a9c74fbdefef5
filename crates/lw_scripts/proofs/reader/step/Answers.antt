use Rattle.lw_scripts.proofs.Scanning.{steps}
use Rattle.lw_scripts.proofs.reader.step.Goals as goal

pub returns-in-Ok : goal.returns-in-Ok
returns-in-Ok c = steps c.args.wanted c.args.place c.args.line.now c.args.number c.in-Ok.next c.ok_or.result c.in-Ok.ensures c.ok_or.ensures.value
