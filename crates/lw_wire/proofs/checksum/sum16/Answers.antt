use Rattle.std.proofs.Common.{arith}
use Rattle.lw_wire.proofs.ChecksumLaws.{sum_joined}
use Rattle.lw_wire.proofs.checksum.sum16.Goals as goal

pub returns : goal.returns
returns c =
    let joined = sum_joined c.args.first.now c.args.second.now (λ i. omega (arith, c.type_inv.first i)) (λ i. omega (arith, c.type_inv.second i)) in
    cc (joined)
