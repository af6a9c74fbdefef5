use Rattle.rows.proofs.Runs.{serial_script_spelled}
use Rattle.rows.proofs.worked.the_text_is_the_script.Goals as goal

pub returns : goal.returns
returns c = serial_script_spelled
