use Rattle.std.proofs.Common.{arith}
use Rattle.lw_payload.proofs.PlainLaws.{plain_cut}
use Rattle.lw_payload.proofs.octet_vec.VecU8Payload.refill.Goals as goal

pub returns : goal.returns
returns c = plain_cut _ _ _ _ _ c.copy_from_slice.ensures.items (omega arith) (omega arith)
