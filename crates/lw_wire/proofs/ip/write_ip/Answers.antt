use Rattle.std.proofs.Common.{◌++◌, ℕ, List}
use Rattle.lw_wire.specs.Ip.{ReadsIp}
use Rattle.lw_wire.proofs.FieldsLaws.{added}
use Rattle.lw_wire.proofs.ip.write_ip.Goals as goal

pub returns-clause-read_back : goal.returns-clause-read_back
returns-clause-read_back c = λ padding.
    let body = c.args.body.now in
    added (λ (octets : List ℕ). ReadsIp (octets ++ padding) c.args.head.now body) c.append.result _ _ (c.ip_octets.result ++ body)
    c.append.ensures.ok (c.ip_octets.ensures.read_back body padding c.requires)
