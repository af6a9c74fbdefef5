use Rattle.std.proofs.Common.{◌<◌, ◌≤◌, drop}
use Rattle.pbuf_spans.specs.Parts.{least_adds}
use Rattle.lw_pbuf.specs.Chains.{all_parts}
use Rattle.lw_pbuf.proofs.share.have_adds.Given as goal

abbrev pub invariant-loop-span : goal.invariant-loop-span
invariant-loop-span l = record {
  most : least_adds (all_parts l.spans) ≤ least_adds (all_parts (drop l.span-index l.spans));
  some : 0 < least_adds (all_parts (drop l.span-index l.spans)) → 0 < least_adds (all_parts l.spans);
}
