use Rattle.std.proofs.Common.{◌≡◌}
use Rattle.tcpip_mbox.proofs.mbox.TcpipMbox.fetch.Given as goal

abbrev pub invariant-loop : goal.invariant-loop
invariant-loop g l = l.get ≡ l.fn.get
