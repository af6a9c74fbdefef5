use Rattle.lw_pbuf.proofs.Homes.{is_of, is_spent}
use Rattle.lw_pbuf.proofs.payload.ChainPayload.spend.Goals as goal

pub pbuf_free-requires : goal.pbuf_free-requires
pbuf_free-requires c = is_of _ _ c.requires

pub returns : goal.returns
returns c = let e = c.pbuf_free.ensures in record { spent = is_spent _ _ _ e.spent; frees = e.ended }
