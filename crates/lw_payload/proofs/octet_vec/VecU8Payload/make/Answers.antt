use Rattle.lw_payload.proofs.PlainLaws.{plain_made}
use Rattle.lw_payload.proofs.octet_vec.VecU8Payload.make.Goals as goal

pub returns-clause-made : goal.returns-clause-made
returns-clause-made c = plain_made _ _ _ _ c.in_ok-from_slice.ensures.items
