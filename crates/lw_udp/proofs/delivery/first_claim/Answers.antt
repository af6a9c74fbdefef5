use Rattle.lw_udp.specs.Ends.{unbound}
use Rattle.lw_udp.proofs.ClaimLaws.{first_more}
use Rattle.lw_udp.proofs.delivery.first_claim.Goals as goal

pub loop-end-preserved : goal.loop-end-preserved
loop-end-preserved c =
    first_more c.args.src c.args.dst c.args.ends.now c.loop-end.end-index (unbound 0) _ _ _ c.loop-end-test.true c.loop-end.invariant c.claim_of.ensures c.first_with-first.ensures
