use Rattle.std.proofs.Common.{◌≡◌, ◌-◌, length, ◌∙◌, ap, length-drop, arith}
use Rattle.lw_payload.proofs.PlainLaws.{plain_cut}
use Rattle.lw_payload.proofs.octet_vec.VecU8Payload.cut_front.Goals as goal

pub returns : goal.returns
returns c =
    let l : length c.cut_octets.new.octets.items ≡ length c.args.self.now.items - c.args.n = ap length c.cut_octets.ensures.items ∙ length-drop c.args.n c.args.self.now.items in
    plain_cut _ _ _ _ _ c.cut_octets.ensures.items (omega arith) (omega arith)
