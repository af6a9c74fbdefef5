use Rattle.lw_frag.proofs.PiecesLaws.{pieces-join}
use Rattle.lw_frag.proofs.laws.fragments_join.Goals as goal

pub returns : goal.returns
returns c = pieces-join
