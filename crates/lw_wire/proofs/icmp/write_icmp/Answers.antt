use Rattle.std.proofs.Common.{◌++◌, ℕ, List}
use Rattle.lw_wire.specs.Icmp.{ReadsIcmp}
use Rattle.lw_wire.proofs.FieldsLaws.{added}
use Rattle.lw_wire.proofs.icmp.write_icmp.Goals as goal

pub returns-clause-read_back : goal.returns-clause-read_back
returns-clause-read_back c =
    let body = c.args.body.now in
    added (λ (octets : List ℕ). ReadsIcmp octets c.args.head.now body) c.append.result _ _ (c.icmp_octets.result ++ body)
    c.append.ensures.ok c.icmp_octets.ensures.read_back
