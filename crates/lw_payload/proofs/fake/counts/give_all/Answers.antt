use Rattle.std.proofs.Common.{get_or, arith}
use Rattle.lw_payload.proofs.CountLaws.{times-take_here}
use Rattle.lw_payload.proofs.fake.counts.give_all.Goals as goal

pub give-requires : goal.give-requires
give-requires c =
    let here = times-take_here c.args.places.now c.loop-place.place-index c.loop-place-test.true in
    let moved = c.loop-place.invariant.moves.each (get_or c.args.places.now c.loop-place.place-index 0) in
    let owned = c.requires.owned (get_or c.args.places.now c.loop-place.place-index 0) in
    omega arith
