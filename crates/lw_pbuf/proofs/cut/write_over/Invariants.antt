use Rattle.lw_pbuf.proofs.Rewriting.{Writes}
use Rattle.lw_pbuf.proofs.cut.write_over.Given as goal

abbrev pub invariant-loop-span : goal.invariant-loop-span
invariant-loop-span l = Writes l.fn.spans l.spans l.span-index l.octets l.rest
