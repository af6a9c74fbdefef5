use Rattle.std.proofs.Common.{◌≤◌, length}
use Rattle.std.specs.Prelude.{vec_capacity}
use Rattle.lw_payload.specs.Views.{pbufs_of}
use Rattle.lw_pbuf.specs.Takes.{places_of}
use Rattle.lw_pbuf.proofs.Taken.{Fills}
use Rattle.lw_pbuf.proofs.take.fill.Given as goal

abbrev pub invariant-loop-left : goal.invariant-loop-left
invariant-loop-left l = record {
  fills : Fills l.fn.seat l.seat l.kind l.octets l.pbufs.items l.left (places_of l.fn.seat l.kind) l.initial.turn l.turn;
  room : pbufs_of l.kind (length l.octets) ≤ vec_capacity l.pbufs;
  below : l.turn ≤ l.end;
}

abbrev pub decreases-loop-left : goal.decreases-loop-left
decreases-loop-left l = l.left
