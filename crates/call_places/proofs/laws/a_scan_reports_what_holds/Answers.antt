use Rattle.call_places.proofs.WaitLaws.{selects_law}
use Rattle.call_places.proofs.laws.a_scan_reports_what_holds.Goals as goal

pub returns : goal.returns
returns g = selects_law
