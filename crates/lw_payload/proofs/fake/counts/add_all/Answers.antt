use Rattle.std.proofs.Common.{get_or, arith}
use Rattle.lw_payload.proofs.CountLaws.{times-take_here}
use Rattle.lw_payload.proofs.fake.counts.add_all.Goals as goal

pub add-requires-clause-owned : goal.add-requires-clause-owned
add-requires-clause-owned c =
    let place = get_or c.args.places.now c.loop-place.place-index 0 in
    let here = times-take_here c.args.places.now c.loop-place.place-index c.loop-place-test.true in
    let there = c.requires.there place in
    let moved = c.loop-place.invariant.moves.each place in
    omega arith
