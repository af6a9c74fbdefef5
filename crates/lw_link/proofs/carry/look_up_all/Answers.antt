use Rattle.std.proofs.lemmas.List.{take_more}
use Rattle.lw_link.proofs.CarryLaws.{Asked-more}
use Rattle.lw_link.proofs.carry.look_up_all.Goals as goal

pub loop-ip-preserved : goal.loop-ip-preserved
loop-ip-preserved g c =
    Asked-more g.P.Payload.seen _ _ _ c.args.table.now c.loop-ip.table c.look_up.new.table c.args.asked.now c.loop-ip.ip-index _
    (take_more c.args.asked.now c.loop-ip.ip-index _ c.loop-ip-test.true) c.look_up.ensures.table c.look_up.ensures.moves c.loop-ip.invariant
