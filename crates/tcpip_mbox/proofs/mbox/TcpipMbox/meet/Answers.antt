use Rattle.std.proofs.Common.{rules}
use Rattle.tcpip_mbox.proofs.Sharing.{meets}
use Rattle.tcpip_mbox.proofs.Steps.{told}
use Rattle.tcpip_mbox.proofs.mbox.TcpipMbox.meet.Goals as goal

pub absorb-requires-clause-rule : goal.absorb-requires-clause-rule
absorb-requires-clause-rule g c = meets g.M.Message.fits _ _ c.args.self.now.key (search rules) _ _ (search rules) (search rules) (search rules) (search rules)

pub learn_as-requires-clause-rule : goal.learn_as-requires-clause-rule
learn_as-requires-clause-rule g c = told g.M.Message.fits _ _ c.args.self.now.key (search rules) (search rules)
