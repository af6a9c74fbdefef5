use Rattle.std.proofs.Common.{◌≡◌, ◌*◌, ◌≤◌, length, take}
use Rattle.lw_reass.specs.Opens.{bodies_in}
use Rattle.lw_reass.proofs.table.count_in.Given as goal

abbrev pub invariant-loop-datagram : goal.invariant-loop-datagram
invariant-loop-datagram g l = record { sum : l.kept ≡ length (bodies_in (take l.datagram-index l.opens)); few : l.kept ≤ 65535 * l.datagram-index }
