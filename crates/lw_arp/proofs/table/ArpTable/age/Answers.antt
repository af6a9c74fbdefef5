use Rattle.std.proofs.Common.{rules}
use Rattle.lw_arp.proofs.BalanceLaws.{alike_aged}
use Rattle.lw_arp.proofs.TableLaws.{IsTable-aged}
use Rattle.lw_arp.proofs.table.ArpTable.age.Goals as goal

pub invariant_of-self : goal.invariant_of-self
invariant_of-self g c = rw c.tick.ensures.table (IsTable-aged c.self.inside.entries.items c.self.invariant.0, search rules)

pub returns-clause-kept : goal.returns-clause-kept
returns-clause-kept g c =
    alike_aged c.args.self.now c.tick.new.entries.items c.args.gone.now.items c.tick.new.gone.items (search rules) (search rules)
