use Rattle.std.proofs.Common.{rules}
use Rattle.tcpip_mbox.proofs.Sharing.{takes_key}
use Rattle.tcpip_mbox.proofs.mbox.keyed.Goals as goal

pub another-requires-clause-rule : goal.another-requires-clause-rule
another-requires-clause-rule g c = takes_key g.M.Message.fits _ _ c.args.key.now _ (search rules) c.requires.picked
