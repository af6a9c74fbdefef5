use Rattle.std.proofs.Common.{length}
use Rattle.lw_script.proofs.Scanning.{Scanned}
use Rattle.lw_script.proofs.reader.scan.Given as goal

abbrev pub invariant-loop-line : goal.invariant-loop-line
invariant-loop-line l = Scanned l.fn.bytes l.rest l.expected l.number

abbrev pub decreases-loop-line : goal.decreases-loop-line
decreases-loop-line l = length l.rest
