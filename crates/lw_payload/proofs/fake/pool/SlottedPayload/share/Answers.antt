use Rattle.std.proofs.Common.{min, vec_capacity, ◌-◌, length, arith}
use Rattle.std.specs.Vec.{with_items}
use Rattle.std.proofs.lemmas.List.{with_items_is}
use Rattle.lw_payload.proofs.PoolLaws.{of_owned, pool_shared}
use Rattle.lw_payload.proofs.fake.pool.SlottedPayload.share.Goals as goal

pub add_all-requires-clause-there : goal.add_all-requires-clause-there
add_all-requires-clause-there c =
    rw (c.deref-2.ensures.value, c.in_ok-octets.ensures.1) (of_owned c.args.home.now c.args.self.now _ c.deref_mut.ensures.value c.requires)

pub returns-clause-shared : goal.returns-clause-shared
returns-clause-shared c =
    let from = rw (c.deref_mut.ensures.value, c.deref-2.ensures.value) at c.add_all.ensures.moves in
    pool_shared c.args.home.now c.args.self.now ((with_items c.args.home.now.counts c.add_all.new.counts).items) c.add_all.new.counts c.in_ok-octets.octets.items c.in_ok-octets.places.items (c.args.self.now.shares - 1)
    (min (vec_capacity c.in_ok-octets.octets - length c.in_ok-octets.octets.items) (vec_capacity c.in_ok-octets.places - length c.in_ok-octets.places.items))
    c.requires c.in_ok-octets.ensures.0 c.in_ok-octets.ensures.1 (omega arith) (with_items_is c.args.home.now.counts c.add_all.new.counts (omega arith)) from
