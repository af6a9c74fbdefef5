use Rattle.std.proofs.Common.{◌≡◌, ℕ, ◌+◌, ◌<◌, length, slice_index}
use Rattle.lw_mbox.proofs.mbox.first_words.Given as goal

abbrev pub invariant-loop-place : goal.invariant-loop-place
invariant-loop-place l = (length l.words.items ≡ l.capacity + 1) × (slice_index l.words.items 0 ≡ 0) × ((j : ℕ) → j < l.place → slice_index l.words.items (1 + j) ≡ j)
