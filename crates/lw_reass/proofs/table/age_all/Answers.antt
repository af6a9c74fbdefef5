use Rattle.std.proofs.Common.{◌+◌, refl, ap, ◌∙◌, arith}
use Rattle.lw_reass.proofs.Ages.{aging_none, aging_stays, aging_ends, aging_all, given_all, aging_room, aging_young, same_age}
use Rattle.lw_reass.proofs.table.age_all.Goals as goal

pub loop-place-init : goal.loop-place-init
loop-place-init g c =
    record { aging = aging_none g.P.Payload.seen c.args.opens.now.items c.args.gone.now.items _ c.requires.each c.requires.room; room = refl; same = refl }

pub overflow_add-age : goal.overflow_add-age
overflow_add-age g c =
    let young = aging_young g.P.Payload.seen c.args.opens.now.items c.loop-place.opens.items c.loop-place.place c.args.gone.now.items c.loop-place.gone.items _ c.index.result.now c.loop-place.invariant.aging (omega arith) c.index.ensures in
    omega arith

pub loop-place-preserved-then-age-lt-OLDEST : goal.loop-place-preserved-then-age-lt-OLDEST
loop-place-preserved-then-age-lt-OLDEST g c =
    let same = same_age c.loop-place.opens.items c.loop-place.place c.index.result.now c.index_mut-datagram.result.now (omega arith) c.index.ensures c.index_mut-datagram.ensures.value in
    record {
      aging =
          aging_stays g.P.Payload.seen c.args.opens.now.items c.loop-place.opens.items c.loop-place.place c.args.gone.now.items c.loop-place.gone.items _ c.index_mut-datagram.result.now _ c.loop-place.invariant.aging (omega arith) c.index_mut-datagram.ensures.value
          (ap (λ n. record c.index_mut-datagram.result.now { age = n + 1 }) same) (let young = c.if-age-lt-OLDEST.true in omega arith);
      room = c.loop-place.invariant.room;
      same = c.loop-place.invariant.same;
    }

pub give-requires : goal.give-requires
give-requires g c =
    let age = same_age c.loop-place.opens.items c.loop-place.place c.index.result.now c.remove-datagram.result (omega arith) c.index.ensures c.remove-datagram.ensures.value in
    let room = aging_room g.P.Payload.seen c.args.opens.now.items c.loop-place.opens.items c.loop-place.place c.args.gone.now.items c.loop-place.gone.items _ c.remove-datagram.result c.loop-place.invariant.aging (omega arith) c.remove-datagram.ensures.value
    (let old = c.if-age-lt-OLDEST.false in omega arith) in
    let same = c.loop-place.invariant.room in
    omega arith

pub loop-place-preserved : goal.loop-place-preserved
loop-place-preserved g c =
    let same = same_age c.loop-place.opens.items c.loop-place.place c.index.result.now c.remove-datagram.result (omega arith) c.index.ensures c.remove-datagram.ensures.value in
    record {
      aging =
          aging_ends g.P.Payload.seen c.args.opens.now.items c.loop-place.opens.items c.remove-datagram.new.self.items c.loop-place.place c.args.gone.now.items c.loop-place.gone.items c.give.new.gone.items _ c.remove-datagram.result c.loop-place.invariant.aging (omega arith)
          c.remove-datagram.ensures.value c.remove-datagram.ensures.items c.give.ensures.given (let old = c.if-age-lt-OLDEST.false in omega arith);
      room = c.give.ensures.room ∙ c.loop-place.invariant.room;
      same = c.remove-datagram.ensures.capacity ∙ c.loop-place.invariant.same;
    }

pub returns-clause-opens : goal.returns-clause-opens
returns-clause-opens g c =
    aging_all g.P.Payload.seen c.args.opens.now.items c.loop-place.opens.items c.loop-place.place c.args.gone.now.items c.loop-place.gone.items _ c.loop-place.invariant.aging (let done = c.loop-place-test.false in omega arith)

pub returns-clause-given : goal.returns-clause-given
returns-clause-given g c =
    given_all g.P.Payload.seen c.args.opens.now.items c.loop-place.opens.items c.loop-place.place c.args.gone.now.items c.loop-place.gone.items _ c.loop-place.invariant.aging (let done = c.loop-place-test.false in omega arith)
