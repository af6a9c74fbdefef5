use Rattle.std.proofs.Common.{rules, ap, sym, ◌∙◌, Some}
use Rattle.lw_arp.specs.Neighbours.{state_of}
use Rattle.lw_arp.proofs.BalanceLaws.{alike_held}
use Rattle.lw_arp.proofs.EntryLaws.{changed_at, waiting_at, state_at, state_nowhere, pending_is_not_empty}
use Rattle.lw_arp.proofs.TableLaws.{IsTable-held, IsTable-same}
use Rattle.lw_arp.proofs.table.ArpTable.hold.Goals as goal

pub unreachable-requires : goal.unreachable-requires
unreachable-requires g c =
    pending_is_not_empty (state_of c.args.self.now c.args.ip) c.requires (state_nowhere c.args.self.now c.args.ip (search rules))

pub returns-clause-table : goal.returns-clause-table
returns-clause-table g c =
    rw (c.replace.ensures.after, ← c.self.view_is)
    (changed_at c.self.inside.entries.items c.args.ip (λ e. record e { packet = Some c.args.packet }) c.in-Some.place c.index_mut.result.now c.self.invariant.0.apart (search rules) (search rules) (search rules))

pub returns-clause-replaced : goal.returns-clause-replaced
returns-clause-replaced g c =
    c.replace.ensures.value ∙ waiting_at c.args.self.now c.args.ip c.in-Some.place c.index_mut.result.now (search rules) (search rules) (search rules)

pub invariant_of-self : goal.invariant_of-self
invariant_of-self g c =
    let table = c.self.inside.entries.items in
    let x = c.index_mut.result.now in
    let read = c.index_mut.ensures.value in
    let at = state_at table c.args.ip c.in-Some.place x (search rules) (search rules) read in
    (IsTable-held table c.in-Some.place x c.replace.new.self (search rules) read (sym at ∙ ap (λ t. state_of t c.args.ip) c.self.view_is ∙ c.requires) c.self.invariant.0, c.self.invariant.1)

pub returns-clause-kept : goal.returns-clause-kept
returns-clause-kept g c =
    alike_held c.args.self.now _ c.args.ip c.args.packet c.replace.result (IsTable-same c.self.inside.entries.items c.args.self.now c.self.view_is c.self.invariant.0) c.requires (returns-clause-table g c) (returns-clause-replaced g c)
