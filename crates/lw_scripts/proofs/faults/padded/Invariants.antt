use Rattle.std.proofs.Common.{◌≡◌, ℕ, ◌-◌, false, get_or, length}
use Rattle.lw_scripts.proofs.faults.padded.Given as goal

abbrev pub invariant-loop-marks : goal.invariant-loop-marks
invariant-loop-marks l = (k : ℕ) → get_or l.marks.items k false ≡ get_or l.fn.marks.items k false

abbrev pub decreases-loop-marks : goal.decreases-loop-marks
decreases-loop-marks l = l.len - length l.marks.items
