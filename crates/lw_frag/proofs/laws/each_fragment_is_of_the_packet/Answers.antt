use Rattle.lw_frag.proofs.PiecesLaws.{pieces-each}
use Rattle.lw_frag.proofs.laws.each_fragment_is_of_the_packet.Goals as goal

pub returns : goal.returns
returns c = pieces-each
