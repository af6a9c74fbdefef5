use Rattle.std.proofs.Common.{◌≡◌, take}
use Rattle.lw_udp.specs.Delivery.{first_claim}
use Rattle.lw_udp.proofs.delivery.first_claim.Given as goal

abbrev pub invariant-loop-end : goal.invariant-loop-end
invariant-loop-end l = l.first ≡ first_claim l.src l.dst (take l.end-index l.ends)
