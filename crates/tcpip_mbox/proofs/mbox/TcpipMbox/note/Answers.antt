use Rattle.std.proofs.Common.{rules}
use Rattle.tcpip_mbox.proofs.Sharing.{tells}
use Rattle.tcpip_mbox.proofs.mbox.TcpipMbox.note.Goals as goal

pub another-pass-requires-clause-rule : goal.another-pass-requires-clause-rule
another-pass-requires-clause-rule g c = tells g.M.Message.fits _ _ c.args.self.now.key (search rules)
