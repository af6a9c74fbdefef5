use Rattle.lw_wire.proofs.IcmpLaws.{icmp-joined, icmp-read_back}
use Rattle.lw_wire.proofs.icmp.icmp_octets.Goals as goal

pub returns : goal.returns
returns c =
    let h = c.args.head.now in
    let body = c.args.body.now in
    let joined = icmp-joined h body c.icmp_with_sum.result c.icmp_sum.result c.icmp_with_sum.ensures.exact c.icmp_sum.ensures.exact in
    record { exact = joined; read_back = rw joined (icmp-read_back h body c.icmp_with_sum.ensures.fits c.icmp_sum.ensures.octets) }
