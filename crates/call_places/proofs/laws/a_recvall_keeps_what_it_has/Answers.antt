use Rattle.call_places.proofs.WaitLaws.{recvalls}
use Rattle.call_places.proofs.laws.a_recvall_keeps_what_it_has.Goals as goal

pub returns : goal.returns
returns g = recvalls
