use Rattle.std.proofs.Common.{◌++◌, ℕ, List, subst, sym, arith}
use Rattle.lw_wire.specs.Arp.{HasArpSpelling, IsArpOperation, ReadsArp}
use Rattle.lw_wire.proofs.ArpLaws.{arp-joined, arp-read_back}
use Rattle.lw_wire.proofs.arp.arp_octets.Goals as goal

pub returns : goal.returns
returns c =
    let p = c.args.packet.now in
    let fits : IsArpOperation p.op → HasArpSpelling p = λ op. record {
      op = op;
      smac = omega (arith, c.type_inv.packet);
      sip = omega (arith, c.type_inv.packet);
      tmac = omega (arith, c.type_inv.packet);
      tip = omega (arith, c.type_inv.packet);
    } in
    let joined = arp-joined p c.to_be_bytes.result c.to_be_bytes-2.result c.to_be_bytes-3.result c.to_be_bytes-4.result c.to_be_bytes-5.result
    (omega (arith, c.type_inv.packet)) (omega (arith, c.type_inv.packet)) c.to_be_bytes.ensures c.to_be_bytes-2.ensures c.to_be_bytes-3.ensures
    c.to_be_bytes-4.ensures c.to_be_bytes-5.ensures in
    record { exact = joined; read_back = λ behind op. subst (λ (octets : List ℕ). ReadsArp (octets ++ behind) p behind) (sym joined) (arp-read_back p behind (fits op)) }
