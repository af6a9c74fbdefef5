use Rattle.rows.proofs.Runs.{no_frames_text-spelled}
use Rattle.rows.proofs.worked.no_frames_are_fed.Goals as goal

pub returns : goal.returns
returns c = no_frames_text-spelled
