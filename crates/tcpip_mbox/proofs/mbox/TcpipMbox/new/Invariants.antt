use Rattle.std.proofs.Common.{Some}
use Rattle.tcpip_mbox.proofs.mbox.TcpipMbox.new.Given as goal

abbrev pub ghosts-keyed : goal.ghosts-keyed
ghosts-keyed g a = record { picked = Some a.key.now }
