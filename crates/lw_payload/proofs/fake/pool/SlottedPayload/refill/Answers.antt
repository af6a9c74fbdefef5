use Rattle.std.proofs.Common.{min, vec_capacity, ◌-◌, length, arith}
use Rattle.std.specs.Vec.{with_items}
use Rattle.std.proofs.lemmas.List.{with_items_is}
use Rattle.lw_payload.proofs.PoolLaws.{of_owned, pool_cut}
use Rattle.lw_payload.proofs.fake.pool.SlottedPayload.refill.Goals as goal

pub give_up-requires-clause-owned : goal.give_up-requires-clause-owned
give_up-requires-clause-owned c = of_owned c.args.home.now c.args.self.now _ c.deref_mut.ensures.value c.requires.of_home

pub returns : goal.returns
returns c =
    pool_cut c.args.home.now c.args.self.now ((with_items c.args.home.now.counts c.give_up.new.counts).items) c.give_up.new.counts c.copy_from_slice.new.self.items c.args.octets.now c.give_up.new.places.items (length c.args.octets.now) (min (vec_capacity c.copy_from_slice.new.self - length c.copy_from_slice.new.self.items) (vec_capacity c.give_up.new.places - length c.give_up.new.places.items))
    c.requires.of_home (with_items_is c.args.home.now.counts c.give_up.new.counts (omega arith))
    (rw c.deref_mut.ensures.value at c.give_up.ensures.moves) c.copy_from_slice.ensures.items c.give_up.ensures.places (omega arith) (omega arith) (omega arith)
