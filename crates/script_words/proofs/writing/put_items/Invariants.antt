use Rattle.std.proofs.Common.{◌≡◌, drop, map}
use Rattle.script_words.specs.Values.{item_word}
use Rattle.script_words.specs.Writing.{onto}
use Rattle.script_words.proofs.writing.put_items.Given as goal

abbrev pub invariant-loop-item : goal.invariant-loop-item
invariant-loop-item l = onto l.out.items (map item_word (drop l.item-index l.items)) ≡ onto l.initial.out.items (map item_word l.items)
