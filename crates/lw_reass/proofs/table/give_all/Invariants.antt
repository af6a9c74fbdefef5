use Rattle.std.proofs.Common.{◌≡◌, ◌+◌, ◌≤◌, ◌++◌, length, vec_capacity}
use Rattle.lw_reass.specs.Opens.{bodies_in}
use Rattle.lw_reass.proofs.table.give_all.Given as goal

abbrev pub invariant-loop-datagram : goal.invariant-loop-datagram
invariant-loop-datagram g l =
    record {
      given : l.gone.items ++ bodies_in l.datagram-iterator.rest.items ≡ l.fn.gone.items ++ bodies_in l.fn.opens.items;
      room : length l.gone.items + length (bodies_in l.datagram-iterator.rest.items) ≤ vec_capacity l.gone;
    }
