use Rattle.std.proofs.Common.{◌≡◌}
use Rattle.lw_pbuf.proofs.Sharing.{Spanned}
use Rattle.lw_pbuf.proofs.share.share_spans.Given as goal

abbrev pub invariant-loop-twin : goal.invariant-loop-twin
invariant-loop-twin l = record {
  spanned : Spanned l.hands l.fn.spans l.spans l.others.items l.twin-iterator.rest.items l.i;
  same : l.seat ≡ l.fn.seat;
  capacity : l.others.capacity ≡ l.fn.others.capacity;
}
