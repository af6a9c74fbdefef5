use Rattle.lw_frag.proofs.PiecesLaws.{pieces-spell}
use Rattle.lw_frag.proofs.laws.fragments_spell_the_data.Goals as goal

pub returns : goal.returns
returns c = pieces-spell
