use Rattle.std.proofs.Common.{◌∙◌, ap, sym}
use Rattle.lw_arp.proofs.TableLaws.{IsTable-keys, IsTable-same}
use Rattle.lw_arp.specs.Neighbours.{keys_of}
use Rattle.lw_arp.proofs.table.ArpTable.keys.Goals as goal

pub invariant_of-result : goal.invariant_of-result
invariant_of-result g c =
    let table = c.self.inside.entries.items in
    (IsTable-same (keys_of table) c.in_ok-keys.field-0.items (sym (c.in_ok-keys.ensures.items ∙ ap keys_of c.deref.ensures.value)) (IsTable-keys table c.self.invariant.0), c.in_ok-keys.ensures.room)
