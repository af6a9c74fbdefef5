use Rattle.std.proofs.Common.{rules}
use Rattle.lwip_run.proofs.HistoryLaws.{numbered_more}
use Rattle.lwip_run.proofs.history.History.push.Goals as goal

pub invariant_of-self-2 : goal.invariant_of-self-2
invariant_of-self-2 c = numbered_more c.self.inside.lines.items c.push.new.self.items c.in_ok-number.number c.args.entry c.self.invariant (search rules) c.in_ok-push.ensures.items
