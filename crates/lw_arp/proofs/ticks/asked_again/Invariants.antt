use Rattle.std.proofs.Common.{◌≡◌, ◌++◌, drop}
use Rattle.lw_arp.specs.Neighbours.{asked_again}
use Rattle.lw_arp.proofs.ticks.asked_again.Given as goal

abbrev pub invariant-loop-entry : goal.invariant-loop-entry
invariant-loop-entry g l = l.asked.items ++ asked_again (drop l.entry-index l.entries) ≡ asked_again l.entries
