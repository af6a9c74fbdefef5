use Rattle.lw_pbuf.proofs.Homes.{is_of, is_cut}
use Rattle.lw_pbuf.proofs.payload.ChainPayload.cut_back.Goals as goal

pub cut_back-requires-clause-of_seat : goal.cut_back-requires-clause-of_seat
cut_back-requires-clause-of_seat c = is_of _ _ c.requires.of_home

pub returns : goal.returns
returns c = let e = c.cut_back.ensures in is_cut _ _ _ _ _ e.cut e.octets e.few e.room (is_of _ _ c.requires.of_home) e.of_seat
