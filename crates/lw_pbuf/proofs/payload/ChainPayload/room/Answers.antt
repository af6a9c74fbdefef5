use Rattle.lw_pbuf.proofs.Homes.{is_same_but_room}
use Rattle.lw_pbuf.proofs.payload.ChainPayload.room.Goals as goal

pub returns-clause-same : goal.returns-clause-same
returns-clause-same c = is_same_but_room _ _ c.room.ensures.same
