use Rattle.std.proofs.Common.{length}
use Rattle.script_words.specs.Words.{left}
use Rattle.script_words.proofs.ItemLaws.{AreRead}
use Rattle.script_words.proofs.words.Words.items.Given as goal

abbrev pub invariant-loop-word : goal.invariant-loop-word
invariant-loop-word l = AreRead l.version (left l.fn.self) l.items.items (left l.rest)

abbrev pub decreases-loop-word : goal.decreases-loop-word
decreases-loop-word l = length (left l.rest)
