use Rattle.std.proofs.Common.{◌≡◌, ◌++◌, take, drop}
use Rattle.lw_udp.specs.Ends.{changed, with_remote}
use Rattle.lw_udp.proofs.ends.set_remote.Given as goal

abbrev pub invariant-loop-end : goal.invariant-loop-end
invariant-loop-end l = l.ends ≡ changed (take l.end-index l.fn.ends) l.conn (with_remote l.to) ++ drop l.end-index l.fn.ends
