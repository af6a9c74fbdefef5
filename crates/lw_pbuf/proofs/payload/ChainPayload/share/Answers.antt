use Rattle.lw_pbuf.proofs.Homes.{is_of, shared_ok, shared_err}
use Rattle.lw_pbuf.proofs.payload.ChainPayload.share.Goals as goal

pub share-requires : goal.share-requires
share-requires c = is_of _ _ c.requires

pub returns-clause-shared : goal.returns-clause-shared
returns-clause-shared c = shared_ok _ _ _ _ _ c.share.ensures.same c.share.ensures.shared

pub returns-clause-err : goal.returns-clause-err
returns-clause-err c = shared_err _ _ _ _ _ c.share.ensures.same c.share.ensures.err
