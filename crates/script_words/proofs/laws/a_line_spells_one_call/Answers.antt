use Rattle.script_words.proofs.CallOnce.{one_call}
use Rattle.script_words.proofs.laws.a_line_spells_one_call.Goals as goal

pub returns : goal.returns
returns c = one_call
