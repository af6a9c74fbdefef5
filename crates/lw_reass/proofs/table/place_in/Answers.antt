use Rattle.lw_reass.proofs.Places.{place_found}
use Rattle.lw_reass.proofs.table.place_in.Goals as goal

pub returns-clause-value : goal.returns-clause-value
returns-clause-value g c = let e = place_found c.args.opens.now c.args.h.now in cc
