use Rattle.std.proofs.Common.{length}
use Rattle.lw_scripts.proofs.Scanning.{Scanned}
use Rattle.lw_scripts.proofs.reader.read.Given as goal

abbrev pub invariant-loop-line : goal.invariant-loop-line
invariant-loop-line l = Scanned l.fn.wanted l.fn.bytes l.rest l.place l.number

abbrev pub decreases-loop-line : goal.decreases-loop-line
decreases-loop-line l = length l.rest
