use Rattle.lw_reass.proofs.Wholes.{by_positions}
use Rattle.lw_reass.proofs.law.a_whole_is_known_by_its_positions.Goals as goal

pub returns : goal.returns
returns c = by_positions
