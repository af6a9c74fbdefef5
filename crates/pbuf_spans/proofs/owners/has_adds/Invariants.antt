use Rattle.std.proofs.Common.{◌<◌, ◌≤◌, drop}
use Rattle.pbuf_spans.specs.Parts.{least_adds}
use Rattle.pbuf_spans.specs.Spans.{bare}
use Rattle.pbuf_spans.proofs.owners.has_adds.Given as goal

abbrev pub invariant-loop-pbuf : goal.invariant-loop-pbuf
invariant-loop-pbuf l = record {
  most : least_adds (bare l.pbufs) ≤ least_adds (bare (drop l.pbuf-index l.pbufs));
  some : 0 < least_adds (bare (drop l.pbuf-index l.pbufs)) → 0 < least_adds (bare l.pbufs);
}
