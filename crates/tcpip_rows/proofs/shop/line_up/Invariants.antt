use Rattle.std.proofs.Common.{◌≡◌, ◌+◌, All, length}
use Rattle.hist_lock.specs.Callers.{IsCallerOf}
use Rattle.tcpip_rows.specs.Workers.{IsReady}
use Rattle.tcpip_rows.proofs.Lining.{IsOpen}
use Rattle.tcpip_rows.proofs.shop.line_up.Given as goal

abbrev pub invariant-loop-line : goal.invariant-loop-line
invariant-loop-line l = IsCallerOf l.shop.lock l.first × (l.first.number ≡ 0) × (l.first.splits ≡ length l.workers.items + 1) × All (IsReady l.shop.tcpip) l.workers.items
    × All (IsOpen l.shop.tcpip) l.line-iterator.rest.items × (length l.workers.items + length l.line-iterator.rest.items ≡ length l.fn.lines.items)

abbrev pub invariant-loop-index : goal.invariant-loop-index
invariant-loop-index l = IsCallerOf l.shop.lock l.first × (l.first.number ≡ 0) × (l.first.splits ≡ length l.workers.items + 1) × All (IsReady l.shop.tcpip) l.workers.items
    × (length l.workers.items ≡ length l.fn.lines.items + l.index)
