use Rattle.std.proofs.Common.{◌+◌, drop, length}
use Rattle.std.specs.Prelude.{slice_range}
use Rattle.pbuf_spans.specs.Parts.{joined}
use Rattle.lw_pbuf.specs.Chains.{all_parts}
use Rattle.lw_pbuf.proofs.Copying.{Copies}
use Rattle.lw_pbuf.proofs.copy.copy_out.Given as goal

abbrev pub invariant-loop-span : goal.invariant-loop-span
invariant-loop-span l = Copies (slice_range (joined (all_parts l.spans)) l.from (l.from + length l.fn.out)) (joined (all_parts (drop l.span-index l.spans))) l.out l.skip l.at
