use Rattle.std.proofs.Common.{◌+◌, ◌-◌, length}
use Rattle.lwip_run.proofs.InputLemmas.{Reading}
use Rattle.lwip_run.proofs.inputs.read_whole.Given as goal

abbrev pub invariant-loop-piece : goal.invariant-loop-piece
invariant-loop-piece g l = Reading (g.F.Files.seen l.fn.files) (g.F.Files.seen l.files) l.name l.number l.octets.items l.limit

abbrev pub decreases-loop-piece : goal.decreases-loop-piece
decreases-loop-piece g l = l.limit + 1 - length l.octets.items
