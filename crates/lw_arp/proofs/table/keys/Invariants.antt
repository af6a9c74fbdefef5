use Rattle.std.proofs.Common.{◌≡◌, ◌≤◌, take, vec_capacity}
use Rattle.lw_arp.specs.Neighbours.{keys_of}
use Rattle.lw_arp.proofs.table.keys.Given as goal

abbrev pub invariant-loop-entry : goal.invariant-loop-entry
invariant-loop-entry g l = (l.keys.items ≡ keys_of (take l.entry-index l.entries)) × (10 ≤ vec_capacity l.keys)
