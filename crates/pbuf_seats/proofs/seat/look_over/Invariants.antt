use Rattle.std.proofs.Common.{◌≡◌, ◌≤◌}
use Rattle.pbuf_counts.specs.Owners.{whole}
use Rattle.pbuf_seats.specs.Seats.{IsLookedOver}
use Rattle.pbuf_seats.proofs.seat.look_over.Given as goal

abbrev pub invariant-loop-i : goal.invariant-loop-i
invariant-loop-i l = record {
  own : l.holder.table ≡ l.counts;
  looks : IsLookedOver l.initial.holder l.holder l.i l.free;
  most : l.free ≤ l.i;
  weighs : l.holder.weight ≡ l.initial.holder.weight;
  owns : l.holder.owners ≡ l.initial.holder.owners;
  all : l.initial.holder.weight ≡ whole → l.initial.holder.owners ≡ 0 → l.free ≡ l.i;
}
