use Rattle.std.proofs.Common.{◌≡◌, false}
use Rattle.hist_lock.specs.Callers.{IsCallerOf}
use Rattle.lw_tcpip.specs.Tokens.{IsLineOf}
use Rattle.tcpip_rows.proofs.worker.ask.Given as goal

abbrev pub invariant-loop-amount : goal.invariant-loop-amount
invariant-loop-amount g l = IsLineOf l.tcpip l.line × (l.line.left ≡ false) × IsCallerOf l.tcpip.key.lock.value l.who
