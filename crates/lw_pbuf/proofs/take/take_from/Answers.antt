use Rattle.std.proofs.Common.{rules, ◌≡◌, ◌+◌, arith}
use Rattle.lw_pbuf.specs.Takes.{GivesNone, places_of}
use Rattle.lw_pbuf.proofs.Tried.{tried_more}
use Rattle.lw_pbuf.proofs.Taken.{counted_same, gives_grows, then_none}
use Rattle.lw_pbuf.proofs.take.take_from.Goals as goal

pub returns-in-Some-clause-tried : goal.returns-in-Some-clause-tried
returns-in-Some-clause-tried c =
    let n : c.args.places ≡ places_of c.args.seat.now c.args.kind = c.requires.places in
    let g = c.in-Some.ensures.some.gives in
    let e = c.place_of-place.ensures in
    tried_more c.args.seat.now c.loop-turn.seat c.take_at.new.seat c.args.kind (places_of c.args.seat.now c.args.kind) c.args.turn.now c.loop-turn.turn (c.loop-turn.turn + 1) c.place_of-place.result c.loop-turn.invariant.tried c.take_at.ensures.tried
    (counted_same c.loop-turn.seat c.take_at.new.seat c.args.kind g.sizes) (gives_grows c.loop-turn.seat c.take_at.new.seat _ _ _ g) (omega arith) (λ l. e.first (omega arith)) (λ l. let d = e.again (omega arith) in omega arith)

pub loop-turn-preserved : goal.loop-turn-preserved
loop-turn-preserved c =
    let n : c.args.places ≡ places_of c.args.seat.now c.args.kind = c.requires.places in
    let none : GivesNone c.loop-turn.seat c.take_at.new.seat = search rules in
    let e = c.place_of-place.ensures in
    let i = c.loop-turn.invariant in
    record {
      none = then_none c.args.seat.now c.loop-turn.seat c.take_at.new.seat i.none none;
      tried = tried_more c.args.seat.now c.loop-turn.seat c.take_at.new.seat c.args.kind (places_of c.args.seat.now c.args.kind) c.args.turn.now c.loop-turn.turn (c.loop-turn.turn + 1) c.place_of-place.result i.tried c.take_at.ensures.tried
          (counted_same c.loop-turn.seat c.take_at.new.seat c.args.kind none.gives.sizes) (gives_grows c.loop-turn.seat c.take_at.new.seat (λ _. 0) 0 0 none.gives) (omega arith) (λ l. e.first (omega arith)) (λ l. let d = e.again (omega arith) in omega arith);
      below = let t = c.loop-turn-test.true in omega arith;
    }
