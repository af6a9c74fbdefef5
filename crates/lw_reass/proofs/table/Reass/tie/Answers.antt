use Rattle.std.proofs.Common.{subst}
use Rattle.lw_reass.specs.Table.{Reassembly, IsTied}
use Rattle.lw_reass.proofs.Tables.{tied}
use Rattle.lw_reass.proofs.table.Reass.tie.Goals as goal

pub returns : goal.returns
returns g c =
    subst (λ (r : Reassembly g.row.P.Denot). IsTied g.P.Payload.seen r) c.self.view_is (tied g.P.Payload.seen c.self.inside.opens.items c.self.invariant.each)
