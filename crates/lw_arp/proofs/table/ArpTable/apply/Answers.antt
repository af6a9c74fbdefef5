use Rattle.std.proofs.Common.{rules, ap, ◌∙◌, ◌++◌, option_to_list}
use Rattle.lw_arp.specs.Neighbours.{entry_of, packets}
use Rattle.lw_arp.proofs.BalanceLaws.{alike_alone, alike_made}
use Rattle.lw_arp.proofs.TableLaws.{IsTable-made}
use Rattle.lw_arp.proofs.table.ArpTable.apply.Goals as goal

pub invariant_of-self : goal.invariant_of-self
invariant_of-self g c =
    let table = c.self.inside.entries.items in
    let unknown = ap (λ t. entry_of t c.args.plan.now.ip) c.self.view_is ∙ c.requires c.in-Make.is in
    (IsTable-made table c.add.new.entries.items c.args.plan.now.ip c.args.plan.now.mac c.stable.result unknown c.stable.ensures c.add.ensures.table c.self.invariant.0, c.add.ensures.room)

pub returns-in-Update-clause-kept : goal.returns-in-Update-clause-kept
returns-in-Update-clause-kept g c = alike_alone (packets c.args.self.now) (packets c.update.new.self ++ option_to_list c.update.result) c.update.ensures.kept

pub returns-in-Make-clause-kept : goal.returns-in-Make-clause-kept
returns-in-Make-clause-kept g c =
    alike_made c.args.self.now c.add.new.entries.items c.args.plan.now.ip c.args.plan.now.mac c.add.result (search rules) (search rules)
