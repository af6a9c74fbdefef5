use Rattle.std.proofs.Common.{◌-◌, length, vec_capacity}
use Rattle.lw_arp.proofs.TickLaws.{Ticks}
use Rattle.lw_arp.proofs.ticks.tick.Given as goal

abbrev pub invariant-loop-place : goal.invariant-loop-place
invariant-loop-place g l =
    Ticks l.fn.entries.items l.entries.items l.place l.fn.gone.items l.gone.items (vec_capacity l.fn.entries) (vec_capacity l.entries) (vec_capacity l.fn.gone) (vec_capacity l.gone)

abbrev pub decreases-loop-place : goal.decreases-loop-place
decreases-loop-place g l = length l.entries.items - l.place
