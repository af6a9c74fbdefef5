use Rattle.std.proofs.Common.{rules, ◌≡◌, ℕ, ◌+◌, ◌-◌, length, true, refl, subst, arith}
use Rattle.pbuf_spans.specs.Spans.{parts_of}
use Rattle.lw_pbuf.specs.Takes.{places_of, GivesNone, AreTried}
use Rattle.pbuf_spans.proofs.Spans.{length-parts_of}
use Rattle.lw_pbuf.proofs.Taken.{places_same, fills_next, fills_short, pool_most, some_pbufs}
use Rattle.lw_pbuf.proofs.take.fill.Goals as goal

pub take_from-requires-clause-few : goal.take_from-requires-clause-few
take_from-requires-clause-few c =
    let l = c.loop-left in
    let f = l.invariant.fills in
    λ e.
    let q = c.requires.few e in
    let claimed = f.taken.claimed in
    let most = pool_most c.args.kind (length (parts_of true c.args.octets.now l.pbufs.items)) in
    let parts = length-parts_of true c.args.octets.now l.pbufs.items in
    let few = f.few in
    let one = some_pbufs c.args.kind l.left (let t = c.loop-left-test.true in omega arith) in
    omega arith

pub returns-in_default-clause-tried : goal.returns-in_default-clause-tried
returns-in_default-clause-tried c =
    let l = c.loop-left in
    let f = l.invariant.fills in
    let g = f.taken.gives in
    let none : GivesNone l.seat c.take_from.new.seat = search rules in
    let end : c.take_from.new.turn ≡ c.first_turn-turn.result + c.from-places.result = search rules in
    let places : c.from-places.result ≡ places_of c.args.seat.now c.args.kind = search rules in
    let tried = subst (λ (k : ℕ). AreTried l.seat c.take_from.new.seat c.args.kind k l.turn c.take_from.new.turn) (places_same c.args.seat.now l.seat c.args.kind g.sizes g.table) c.take_from.ensures.tried in
    let below = c.first_turn-turn.ensures in
    let few = f.few in
    let one = some_pbufs c.args.kind l.left (let t = c.loop-left-test.true in omega arith) in
    λ _. (fills_short c.args.seat.now l.seat c.take_from.new.seat c.args.kind c.args.octets.now l.pbufs.items l.left (places_of c.args.seat.now c.args.kind) c.first_turn-turn.result l.turn c.take_from.new.turn f none tried refl (omega arith) (omega arith), omega arith)

pub loop-left-preserved : goal.loop-left-preserved
loop-left-preserved c =
    let l = c.loop-left in
    let i = l.invariant in
    let g = i.fills.taken.gives in
    let tried = subst (λ (k : ℕ). AreTried l.seat c.take_from.new.seat c.args.kind k l.turn c.take_from.new.turn) (places_same c.args.seat.now l.seat c.args.kind g.sizes g.table) c.take_from.ensures.tried in
    let below = c.take_from.ensures.below in
    let capacity = c.push_reserved.ensures.capacity in
    let room = i.room in
    record {
      fills = fills_next c.args.seat.now l.seat c.take_from.new.seat c.args.kind c.args.octets.now l.pbufs.items c.push_reserved.new.self.items (record { owner = c.in-Some.owner; len = c.min-len.result }) l.left (l.left - c.min-len.result)
          (places_of c.args.seat.now c.args.kind) c.first_turn-turn.result l.turn c.take_from.new.turn
          i.fills c.requires.small (let t = c.loop-left-test.true in omega arith) (search rules) c.in-Some.ensures.some tried c.push_reserved.ensures.items refl;
      room = omega arith;
      below = omega arith;
    }
