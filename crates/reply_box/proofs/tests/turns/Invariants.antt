use Rattle.std.proofs.Common.{◌≡◌, ◌≤◌}
use Rattle.reply_box.specs.Places.{IsOf}
use Rattle.reply_box.proofs.tests.turns.Given as goal

abbrev pub invariant-loop-n : goal.invariant-loop-n
invariant-loop-n g l = IsOf l.place l.pledge × (l.pledge.count ≡ l.n) × IsOf l.place l.waits × (l.right ≤ l.n)
