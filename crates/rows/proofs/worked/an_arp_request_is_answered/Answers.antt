use Rattle.rows.proofs.Runs.{request_text-spelled}
use Rattle.rows.proofs.worked.an_arp_request_is_answered.Goals as goal

pub returns : goal.returns
returns c = request_text-spelled
