use Rattle.std.proofs.Common.{◌++◌, ℕ, List}
use Rattle.lw_wire.specs.Eth.{ReadsEth}
use Rattle.lw_wire.proofs.FieldsLaws.{added}
use Rattle.lw_wire.proofs.eth.write_eth.Goals as goal

pub returns-clause-read_back : goal.returns-clause-read_back
returns-clause-read_back c =
    let body = c.args.body.now in
    added (λ (octets : List ℕ). ReadsEth octets c.args.head.now body) c.append.result _ _ (c.eth_octets.result ++ body)
    c.append.ensures.ok (c.eth_octets.ensures.read_back body)
