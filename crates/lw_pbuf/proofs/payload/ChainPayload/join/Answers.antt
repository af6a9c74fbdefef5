use Rattle.lw_pbuf.proofs.Homes.{same_table, is_joined}
use Rattle.lw_pbuf.proofs.payload.ChainPayload.join.Goals as goal

pub cat-requires-clause-table : goal.cat-requires-clause-table
cat-requires-clause-table c = same_table _ _ c.requires.family

pub returns : goal.returns
returns c = let e = c.cat.ensures in is_joined _ _ _ e.parts e.table e.room
