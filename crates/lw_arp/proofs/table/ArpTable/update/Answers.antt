use Rattle.std.proofs.Common.{rules, arith, refl, ◌∙◌, ◌<◌}
use Rattle.lw_arp.specs.Neighbours.{packets, told}
use Rattle.lw_arp.proofs.EntryLaws.{changed_at, waiting_at, changed_nowhere, waiting_nowhere}
use Rattle.lw_arp.proofs.BalanceLaws.{alike_none, alike_told}
use Rattle.lw_arp.proofs.TableLaws.{IsTable-same, IsTable-set}
use Rattle.lw_arp.proofs.table.ArpTable.update.Goals as goal

pub returns-in_err-place-clause-table : goal.returns-in_err-place-clause-table
returns-in_err-place-clause-table g c = changed_nowhere c.args.self.now c.args.ip _ (search rules)

pub returns-in_err-place-clause-send : goal.returns-in_err-place-clause-send
returns-in_err-place-clause-send g c = c.from_residual.ensures ∙ waiting_nowhere c.args.self.now c.args.ip (search rules)

pub returns-clause-table : goal.returns-clause-table
returns-clause-table g c =
    rw (c.take.ensures.after, ← c.self.view_is)
    (changed_at c.self.inside.entries.items c.args.ip (told c.args.mac) c.in_ok-place.place c.index_mut-entry.result.now c.self.invariant.0.apart (search rules) (search rules) (search rules))

pub returns-clause-send : goal.returns-clause-send
returns-clause-send g c =
    c.take.ensures.value ∙ waiting_at c.args.self.now c.args.ip c.in_ok-place.place c.index_mut-entry.result.now (search rules) (search rules) (search rules)

pub invariant_of-self : goal.invariant_of-self
invariant_of-self g c =
    let young : 0 < 1200 = omega arith in
    (IsTable-set c.self.inside.entries.items c.in_ok-place.place c.index_mut-entry.result.now _ (search rules) c.index_mut-entry.ensures.value c.self.invariant.0 refl young (λ _. c.take.ensures.after), c.self.invariant.1)

pub returns-in_err-place-clause-kept : goal.returns-in_err-place-clause-kept
returns-in_err-place-clause-kept g c = alike_none (packets c.args.self.now) c.from_residual.result c.from_residual.ensures

pub returns-clause-kept : goal.returns-clause-kept
returns-clause-kept g c =
    alike_told c.args.self.now _ c.args.ip c.args.mac c.take.result (IsTable-same c.self.inside.entries.items c.args.self.now c.self.view_is c.self.invariant.0) (returns-clause-table g c) (returns-clause-send g c)
