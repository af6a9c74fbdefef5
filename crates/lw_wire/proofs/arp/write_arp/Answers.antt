use Rattle.std.proofs.Common.{◌++◌, ℕ, List}
use Rattle.lw_wire.specs.Arp.{ReadsArp}
use Rattle.lw_wire.proofs.FieldsLaws.{added}
use Rattle.lw_wire.proofs.arp.write_arp.Goals as goal

pub returns-clause-read_back : goal.returns-clause-read_back
returns-clause-read_back c =
    let body = c.args.body.now in
    added (λ (octets : List ℕ). ReadsArp octets c.args.head.now body) c.append.result _ _ (c.arp_octets.result ++ body)
    c.append.ensures.ok (c.arp_octets.ensures.read_back body c.requires)
