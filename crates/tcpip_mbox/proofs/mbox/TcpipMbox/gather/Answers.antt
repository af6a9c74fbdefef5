use Rattle.std.proofs.Common.{rules}
use Rattle.tcpip_mbox.proofs.Sharing.{gathers}
use Rattle.tcpip_mbox.proofs.mbox.TcpipMbox.gather.Goals as goal

pub absorb-requires-clause-rule : goal.absorb-requires-clause-rule
absorb-requires-clause-rule g c = gathers g.M.Message.fits _ _ c.args.self.now.key (search rules) _ _ (search rules) (search rules) (search rules)
