use Rattle.std.proofs.Common.{arith}
use Rattle.lw_wire.proofs.UdpLaws.{udp-joined, udp-read_back}
use Rattle.lw_wire.proofs.udp.udp_octets.Goals as goal

pub returns : goal.returns
returns c =
    let h = c.args.head.now in
    let src = c.args.src in
    let dst = c.args.dst in
    let body = c.args.body.now in
    let joined = udp-joined h src dst body c.udp_with_sum.result c.udp_sum.result c.udp_with_sum.ensures.exact c.udp_sum.ensures in
    record {
      exact = joined;
      read_back = λ padding. rw joined (udp-read_back h src dst body padding c.requires c.udp_with_sum.ensures.fits (λ i. omega (arith, c.type_inv.body i)));
    }
