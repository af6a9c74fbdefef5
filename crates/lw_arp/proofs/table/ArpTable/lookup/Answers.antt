use Rattle.std.proofs.Common.{rules, ap, sym, ◌∙◌}
use Rattle.lw_arp.specs.Neighbours.{state_of}
use Rattle.lw_arp.specs.declared.entries.Next.TheVariants.{Ask}
use Rattle.lw_arp.proofs.BalanceLaws.{alike_looked_up}
use Rattle.lw_arp.proofs.TableLaws.{IsTable-looked_up}
use Rattle.lw_arp.proofs.table.ArpTable.lookup.Goals as goal

pub invariant_of-self : goal.invariant_of-self
invariant_of-self g c =
    let table = c.self.inside.entries.items in
    let empty = ap (λ t. state_of t c.args.ip) c.self.view_is ∙ sym c.state_of.ensures ∙ c.in-Empty.is in
    (IsTable-looked_up table c.add.new.entries.items c.args.ip c.pending.result empty c.pending.ensures c.add.ensures.table c.self.invariant.0, c.add.ensures.room)

pub returns-in-Empty-clause-kept : goal.returns-in-Empty-clause-kept
returns-in-Empty-clause-kept g c =
    alike_looked_up c.args.self.now c.add.new.entries.items c.args.ip (Ask c.add.result) (search rules) (search rules)
