use Rattle.std.proofs.Common.{rules}
use Rattle.tcpip_mbox.proofs.Steps.{pushes, fullness}
use Rattle.tcpip_mbox.proofs.mbox.TcpipMbox.put.Goals as goal

pub push_as-requires-clause-rule : goal.push_as-requires-clause-rule
push_as-requires-clause-rule g c = (
  pushes g.M.Message.fits _ _ _ c.args.self.now.key (search rules) (search rules) (search rules) (search rules) (search rules) _,
  fullness g.M.Message.fits _ _ c.args.self.now.key (search rules) (search rules),
)
