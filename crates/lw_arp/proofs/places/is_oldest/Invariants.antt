use Rattle.std.proofs.Common.{◌≡◌, false, take}
use Rattle.std.specs.List.{list_any}
use Rattle.lw_arp.specs.Neighbours.{goes_sooner}
use Rattle.lw_arp.proofs.places.is_oldest.Given as goal

abbrev pub invariant-loop-x : goal.invariant-loop-x
invariant-loop-x g l = list_any (λ x. goes_sooner x l.y) (take l.x-index l.entries) ≡ false
