use Rattle.std.proofs.Common.{◌≡◌, ◌-◌, length, vec_capacity}
use Rattle.lw_reass.proofs.Ages.{Aging}
use Rattle.lw_reass.proofs.table.age_all.Given as goal

abbrev pub invariant-loop-place : goal.invariant-loop-place
invariant-loop-place g l =
    record {
      aging : Aging g.P.Payload.seen l.fn.opens.items l.opens.items l.place l.fn.gone.items l.gone.items (vec_capacity l.fn.gone);
      room : vec_capacity l.gone ≡ vec_capacity l.fn.gone;
      same : vec_capacity l.opens ≡ vec_capacity l.fn.opens;
    }

abbrev pub decreases-loop-place : goal.decreases-loop-place
decreases-loop-place g l = length l.opens.items - l.place
