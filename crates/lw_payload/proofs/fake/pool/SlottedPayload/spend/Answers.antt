use Rattle.lw_payload.proofs.PoolLaws.{of_owned}
use Rattle.lw_payload.proofs.fake.pool.SlottedPayload.spend.Goals as goal

pub give_all-requires-clause-owned : goal.give_all-requires-clause-owned
give_all-requires-clause-owned c = rw c.deref.ensures.value (of_owned c.args.home.now c.args.self _ c.deref_mut.ensures.value c.requires)
