use Rattle.std.proofs.Common.{◌≡◌, length, vec_capacity, Some}
use Rattle.crossbeam_queue.specs.Passes.{view, IsPassOf}
use Rattle.tcpip_mbox.specs.Views.{both_ways}
use Rattle.tcpip_mbox.specs.Tokens.{AreNumbered}
use Rattle.tcpip_mbox.proofs.mbox.hire.Given as goal

abbrev pub invariant-loop-number : goal.invariant-loop-number
invariant-loop-number g l = IsPassOf l.queue l.first × (view l.first ≡ both_ways (Some l.key) l.number) × AreNumbered l.queue.table.shared.table_id (Some l.key) 1 l.puts.items × (length l.puts.items ≡ l.number)
    × (vec_capacity l.puts ≡ vec_capacity l.fn.puts)
