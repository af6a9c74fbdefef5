use Rattle.std.proofs.Common.{◌++◌, ℕ, List, subst, sym, arith}
use Rattle.lw_wire.specs.Eth.{HasEthSpelling, ReadsEth}
use Rattle.lw_wire.proofs.EthLaws.{eth-joined, eth-read_back}
use Rattle.lw_wire.proofs.eth.eth_octets.Goals as goal

pub returns : goal.returns
returns c =
    let h = c.args.head.now in
    let fits : HasEthSpelling h = record {
      dst = omega (arith, c.type_inv.head);
      src = omega (arith, c.type_inv.head);
      ethertype = omega (arith, c.type_inv.head);
    } in
    let joined = eth-joined h c.to_be_bytes.result fits.dst fits.src c.to_be_bytes.ensures in
    record { exact = joined; read_back = λ body. subst (λ (octets : List ℕ). ReadsEth (octets ++ body) h body) (sym joined) (eth-read_back h body fits) }
