use Rattle.script_words.specs.Words.{left}
use Rattle.script_words.proofs.ItemLaws.{stops}
use Rattle.script_words.proofs.words.Words.items.Goals as goal

pub returns-in_default-parse_item : goal.returns-in_default-parse_item
returns-in_default-parse_item c =
    stops c.args.version (left c.args.self) (left c.loop-word.rest) (left c.in-Some.behind) c.in-Some.word.now c.loop-word.items.items c.loop-word.invariant c.in-Some.ensures c.in_default-parse_item.ensures
