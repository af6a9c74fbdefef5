use Rattle.std.proofs.Common.{arith}
use Rattle.lw_payload.proofs.PlainLaws.{plain_cut}
use Rattle.lw_payload.proofs.octet_vec.VecU8Payload.cut_back.Goals as goal

pub returns : goal.returns
returns c = plain_cut _ _ _ _ _ (let e = c.as_slice.ensures.value in let f = c.truncate.ensures.items in cc) (omega arith) (omega arith)
