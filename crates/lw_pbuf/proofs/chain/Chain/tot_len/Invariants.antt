use Rattle.std.proofs.Common.{◌≡◌, ◌+◌, length, drop}
use Rattle.pbuf_spans.specs.Parts.{joined}
use Rattle.lw_pbuf.specs.Chains.{all_parts}
use Rattle.lw_pbuf.proofs.chain.Chain.tot_len.Given as goal

abbrev pub invariant-loop-span : goal.invariant-loop-span
invariant-loop-span l = l.total + length (joined (drop l.skip (all_parts (drop l.span-index l.span-items)))) ≡ length (joined (drop l.i l.self.parts))
