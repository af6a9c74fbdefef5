use Rattle.std.proofs.Common.{◌≡◌, ◌++◌, take, length}
use Rattle.lw_netif.proofs.sent.Sent.send.Given as goal

abbrev pub invariant-loop-frame : goal.invariant-loop-frame
invariant-loop-frame l = (l.self-inside.log.frames ≡ l.fn.self ++ take l.frame-index l.frames) × (l.self-inside.count ≡ length l.fn.self)
