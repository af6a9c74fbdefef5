use Rattle.std.proofs.Common.{◌≡◌, ◌<◌, length, get_or, refl, arith}
use Rattle.std.proofs.lemmas.List.{get_or_default}
use Rattle.pbuf_seats.specs.declared.pbuf.Pbuf.{Pbuf}
use Rattle.pbuf_spans.proofs.Owning.{owns_first, owns_few, owns_owner, owns_adds, owns_next, owns_last}
use Rattle.pbuf_spans.proofs.owners.add_owners.Goals as goal

pub loop-pbuf-init : goal.loop-pbuf-init
loop-pbuf-init c = record { owns = owns_first c.args.hands c.args.pbufs.now c.args.others.now.items c.requires.none; room = refl }

pub add_owner-requires : goal.add_owner-requires
add_owner-requires c =
    let l = c.loop-pbuf in
    let t = c.loop-pbuf-test.true in
    let n = l.auto.pbufs in
    let inside : l.pbuf-index < length l.pbufs = omega arith in
    let p : Pbuf = get_or l.pbufs l.pbuf-index c.pbuf-item.result in
    let is : p ≡ get_or l.pbufs l.pbuf-index p = get_or_default l.pbufs l.pbuf-index c.pbuf-item.result p inside in
    record {
      owner = owns_owner c.args.hands c.args.pbufs.now l.pbufs l.others.items l.pbuf-index p l.invariant.owns inside is c.args.seat.now c.requires.may;
      some = owns_adds c.args.hands c.args.pbufs.now l.pbufs l.others.items l.pbuf-index p l.invariant.owns inside is c.args.seat.now c.requires.may;
    }

pub push_reserved-requires : goal.push_reserved-requires
push_reserved-requires c =
    let l = c.loop-pbuf in
    let t = c.loop-pbuf-test.true in
    let few = owns_few c.args.hands c.args.pbufs.now l.pbufs l.others.items l.pbuf-index l.invariant.owns (omega arith) in
    let r = c.requires.room in
    let s = l.invariant.room in
    omega arith

pub loop-pbuf-preserved : goal.loop-pbuf-preserved
loop-pbuf-preserved c =
    let l = c.loop-pbuf in
    let e = c.add_owner.ensures in
    let t = c.loop-pbuf-test.true in
    let n = l.auto.pbufs in
    let inside : l.pbuf-index < length l.pbufs = omega arith in
    let p : Pbuf = get_or l.pbufs l.pbuf-index c.pbuf-item.result in
    let is : p ≡ get_or l.pbufs l.pbuf-index p = get_or_default l.pbufs l.pbuf-index c.pbuf-item.result p inside in
    record {
      owns = owns_next c.args.hands c.args.pbufs.now l.pbufs l.others.items l.pbuf-index p l.invariant.owns inside is
          _ _ c.add_owner.new.pbuf c.add_owner.result e.first e.second refl c.push_reserved.ensures.items e.sum e.rows;
      room = let s = l.invariant.room in let k = c.push_reserved.ensures.capacity in omega arith;
    }

pub returns : goal.returns
returns c = owns_last c.args.hands c.args.pbufs.now c.loop-pbuf.pbufs c.loop-pbuf.others.items c.loop-pbuf.pbuf-index c.loop-pbuf.invariant.owns (omega arith)
