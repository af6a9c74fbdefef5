use Rattle.std.proofs.Common.{◌++◌, ℕ, List, subst, sym}
use Rattle.lw_wire.specs.Ip.{ReadsIp}
use Rattle.lw_wire.proofs.IpLaws.{ip-joined, ip-read_back}
use Rattle.lw_wire.proofs.ip.ip_octets.Goals as goal

pub returns : goal.returns
returns c =
    let h = c.args.head.now in
    let joined = ip-joined h c.ip_with_sum.result c.ip_with_sum-2.result c.sum16.result c.ip_with_sum.ensures.exact c.ip_with_sum-2.ensures.exact c.sum16.ensures in
    record {
      exact = joined;
      read_back = λ body padding counts.
          subst (λ (octets : List ℕ). ReadsIp (octets ++ body ++ padding) h body) (sym joined)
          (ip-read_back h body padding counts c.ip_with_sum-2.ensures.fits);
    }
