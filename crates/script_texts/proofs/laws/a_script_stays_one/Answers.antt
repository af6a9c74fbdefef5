use Rattle.script_texts.proofs.UpgradeLaws.{still_script}
use Rattle.script_texts.proofs.laws.a_script_stays_one.Goals as goal

pub returns : goal.returns
returns g = still_script
