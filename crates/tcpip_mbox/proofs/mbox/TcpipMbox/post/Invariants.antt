use Rattle.std.proofs.Common.{◌≡◌}
use Rattle.tcpip_mbox.proofs.mbox.TcpipMbox.post.Given as goal

abbrev pub invariant-loop : goal.invariant-loop
invariant-loop g l = (l.put ≡ l.fn.put) × (l.message ≡ l.fn.message)
