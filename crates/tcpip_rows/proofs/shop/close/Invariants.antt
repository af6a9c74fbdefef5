use Rattle.std.proofs.Common.{◌≡◌, ◌+◌, [], ◌∷◌, ◌++◌, All, List, length, true}
use Rattle.hist_lock.specs.Callers.{IsCallerOf}
use Rattle.lw_tcpip.specs.Tokens.{IsServerOf}
use Rattle.tcpip_rows.specs.Workers.{IsDone}
use Rattle.tcpip_rows.proofs.shop.close.Given as goal

abbrev pub invariant-loop-worker : goal.invariant-loop-worker
invariant-loop-worker l = IsServerOf l.shop.tcpip l.server × (l.server.ended ≡ true) × All (IsDone l.shop.tcpip) l.worker-iterator.rest.items × All (IsCallerOf l.shop.lock) l.callers.items
    × ((cs : List _) × (l.callers.items ≡ l.fn.first ∷ cs)) × (length l.callers.items + length l.worker-iterator.rest.items ≡ length l.fn.workers.items + 2)
