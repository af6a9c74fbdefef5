use Rattle.std.proofs.Common.{length, min, vec_capacity, ◌-◌, refl, ap, arith}
use Rattle.std.specs.Vec.{with_items}
use Rattle.std.proofs.lemmas.List.{with_items_is}
use Rattle.lw_payload.proofs.PoolLaws.{pool_short, pool_enough, pool_refused, pool_keeps, asked_most, pool_made}
use Rattle.lw_payload.proofs.fake.pool.SlottedPayload.make.Goals as goal

pub returns-then-free-needed-clause-empty : goal.returns-then-free-needed-clause-empty
returns-then-free-needed-clause-empty c = λ k e.
    let free = rw c.deref.ensures.value at c.free.ensures in (
      cc,
      pool_short c.args.home.now c.args.kind (length c.args.octets.now) c.free.result c.needed-needed.result free c.needed-needed.ensures c.if-free-needed.true,
      pool_refused c.args.home.now c.args.kind (length c.args.octets.now) c.denied-home.result c.free.result c.needed-needed.result free c.needed-needed.ensures c.if-free-needed.true
          c.args.home.now.small c.args.home.now.taken c.denied-home.ensures.exact,
    )

pub returns-then-free-needed-clause-kept_short : goal.returns-then-free-needed-clause-kept_short
returns-then-free-needed-clause-kept_short c = λ k e some.
    let free = rw c.deref.ensures.value at c.free.ensures in
    pool_short c.args.home.now c.args.kind (length c.args.octets.now) c.free.result c.needed-needed.result free c.needed-needed.ensures c.if-free-needed.true

pub returns-then-free-needed-clause-keeps : goal.returns-then-free-needed-clause-keeps
returns-then-free-needed-clause-keeps c =
    let asked = ap (λ m. m.asked) c.denied-home.ensures.exact in
    let most = asked_most c.args.kind (length c.args.octets.now) c.args.home.now.makes.asked in
    pool_keeps c.args.home.now c.args.kind (length c.args.octets.now) c.args.home.now.counts.items c.denied-home.result refl c.denied-home.ensures.least (omega arith)

pub returns-clause-made : goal.returns-clause-made
returns-clause-made c =
    let from = rw c.deref_mut.ensures.value at c.take.ensures.moves in
    let alone = rw c.deref_mut.ensures.value at c.take.ensures.alone in
    let free = rw c.deref_mut.ensures.value at c.take.ensures.free in
    pool_made c.args.home.now c.args.kind (with_items c.args.home.now.counts c.take.new.counts).items c.take.new.counts c.args.octets.now c.in_ok-octets.octets.items c.take.new.places.items c.granted-home.result
    (min (vec_capacity c.in_ok-octets.octets - length c.in_ok-octets.octets.items) (vec_capacity c.take.new.places - length c.take.new.places.items)) c.needed-needed.result
    c.in_ok-octets.ensures.items (with_items_is c.args.home.now.counts c.take.new.counts (omega arith)) from c.needed-needed.ensures c.take.ensures.all alone free c.granted-home.ensures.exact

pub returns-clause-not_refused : goal.returns-clause-not_refused
returns-clause-not_refused c = λ ok.
    let free = rw c.deref.ensures.value at c.free.ensures in
    pool_enough c.args.home.now c.args.kind (length c.args.octets.now) c.free.result c.needed-needed.result free c.needed-needed.ensures c.if-free-needed.false

pub returns-clause-enough : goal.returns-clause-enough
returns-clause-enough c = λ ok.
    let free = rw c.deref.ensures.value at c.free.ensures in
    pool_enough c.args.home.now c.args.kind (length c.args.octets.now) c.free.result c.needed-needed.result free c.needed-needed.ensures c.if-free-needed.false

pub returns-clause-keeps : goal.returns-clause-keeps
returns-clause-keeps c =
    let asked = ap (λ m. m.asked) c.granted-home.ensures.exact in
    let most = asked_most c.args.kind (length c.args.octets.now) c.args.home.now.makes.asked in
    let same = ap length (with_items_is c.args.home.now.counts c.take.new.counts (omega arith)) in
    pool_keeps c.args.home.now c.args.kind (length c.args.octets.now) (with_items c.args.home.now.counts c.take.new.counts).items c.granted-home.result (omega arith) c.granted-home.ensures.least (omega arith)
