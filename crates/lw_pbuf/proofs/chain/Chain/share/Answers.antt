use Rattle.lw_pbuf.proofs.Sharing.{first_seats, second_seats}
use Rattle.lw_pbuf.proofs.chain.Chain.share.Goals as goal

pub returns-clause-first : goal.returns-clause-first
returns-clause-first c = first_seats _ _ _ _ _ _ c.share_with.ensures.same c.requires c.share_with.ensures.shared

pub returns-clause-second : goal.returns-clause-second
returns-clause-second c = second_seats _ _ _ _ _ _ c.share_with.ensures.same c.requires c.share_with.ensures.shared
