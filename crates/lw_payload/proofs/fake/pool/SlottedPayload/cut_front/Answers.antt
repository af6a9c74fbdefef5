use Rattle.std.proofs.Common.{◌≡◌, ◌∙◌, ap, min, vec_capacity, ◌-◌, length, drop, length-drop, arith}
use Rattle.std.specs.Vec.{with_items}
use Rattle.std.proofs.lemmas.List.{with_items_is}
use Rattle.lw_payload.proofs.PoolLaws.{of_owned, pool_cut}
use Rattle.lw_payload.proofs.fake.pool.SlottedPayload.cut_front.Goals as goal

pub give_up-requires-clause-owned : goal.give_up-requires-clause-owned
give_up-requires-clause-owned c = of_owned c.args.home.now c.args.self.now _ c.deref_mut.ensures.value c.requires.of_home

pub returns : goal.returns
returns c =
    let l = length-drop c.args.n c.args.self.now.octets.items in
    let m : length c.cut_octets.new.octets.items ≡ length c.args.self.now.octets.items - c.args.n = ap length c.cut_octets.ensures.items ∙ l in
    pool_cut c.args.home.now c.args.self.now ((with_items c.args.home.now.counts c.give_up.new.counts).items) c.give_up.new.counts c.cut_octets.new.octets.items (drop c.args.n c.args.self.now.octets.items) c.give_up.new.places.items (c.len.result - c.args.n) (min (vec_capacity c.cut_octets.new.octets - length c.cut_octets.new.octets.items) (vec_capacity c.give_up.new.places - length c.give_up.new.places.items))
    c.requires.of_home (with_items_is c.args.home.now.counts c.give_up.new.counts (omega arith)) (rw c.deref_mut.ensures.value at c.give_up.ensures.moves) c.cut_octets.ensures.items c.give_up.ensures.places
    (omega arith) (omega arith) (omega arith)
