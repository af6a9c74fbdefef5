use Rattle.std.proofs.Common.{ap}
use Rattle.tcpip_mbox.proofs.Sharing.{parts}
use Rattle.tcpip_mbox.proofs.mbox.TcpipMbox.new.Goals as goal

pub another-pass-requires-clause-rule : goal.another-pass-requires-clause-rule
another-pass-requires-clause-rule g c = let is = c.hire.ensures.first in parts g.M.Message.fits _ _ c.args.key.now (ap (λ v. v.key) is) (ap (λ v. v.gets) is)
