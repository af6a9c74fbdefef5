use Rattle.std.proofs.Common.{◌++◌, ℕ, List}
use Rattle.lw_wire.specs.Udp.{ReadsUdp}
use Rattle.lw_wire.proofs.FieldsLaws.{added}
use Rattle.lw_wire.proofs.udp.write_udp.Goals as goal

pub returns-clause-read_back : goal.returns-clause-read_back
returns-clause-read_back c = λ padding.
    let body = c.args.body.now in
    added (λ (octets : List ℕ). ReadsUdp (octets ++ padding) c.args.src c.args.dst c.args.head.now body) c.append.result _ _ (c.udp_octets.result ++ body)
    c.append.ensures.ok (c.udp_octets.ensures.read_back padding)
