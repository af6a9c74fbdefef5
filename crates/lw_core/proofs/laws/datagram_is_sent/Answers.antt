use Rattle.lw_layers.proofs.SendLaws.{one_frame_sent}
use Rattle.lw_core.proofs.laws.datagram_is_sent.Goals as goal

pub returns : goal.returns
returns g = one_frame_sent
