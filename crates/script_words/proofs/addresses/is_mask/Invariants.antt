use Rattle.std.proofs.Common.{◌≡◌, ℕ, ◌-◌, ◌<◌, ◌^◌}
use Rattle.script_words.proofs.addresses.is_mask.Given as goal

abbrev pub invariant-loop-zeros : goal.invariant-loop-zeros
invariant-loop-zeros l = (k : ℕ) → k < l.zeros → l.ip.0 ≡ 2 ^ 32 - 2 ^ k → ⊥
