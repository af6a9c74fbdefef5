use Rattle.std.proofs.Common.{length}
use Rattle.lw_tcpip.proofs.Opening.{Opened}
use Rattle.lw_tcpip.proofs.lines.open_lines.Given as goal

abbrev pub invariant-loop-put : goal.invariant-loop-put
invariant-loop-put g l = Opened l.mbox (length l.fn.puts.items) (length l.fn.puts.items) l.lines.items l.seats.items l.put-iterator.rest.items
