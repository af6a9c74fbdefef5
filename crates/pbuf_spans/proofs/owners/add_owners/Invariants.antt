use Rattle.std.proofs.Common.{◌≡◌, vec_capacity}
use Rattle.pbuf_spans.proofs.Owning.{Owns}
use Rattle.pbuf_spans.proofs.owners.add_owners.Given as goal

abbrev pub invariant-loop-pbuf : goal.invariant-loop-pbuf
invariant-loop-pbuf l = record {
  owns : Owns l.hands l.fn.pbufs l.pbufs l.others.items l.pbuf-index;
  room : vec_capacity l.others ≡ vec_capacity l.fn.others;
}
