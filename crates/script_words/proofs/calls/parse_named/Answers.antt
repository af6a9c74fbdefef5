use Rattle.std.proofs.Common.{◌∷◌}
use Rattle.script_words.specs.Words.{left}
use Rattle.script_words.proofs.CallLaws.{any_length}
use Rattle.script_words.proofs.calls.parse_named.Goals as goal

pub returns-in-None : goal.returns-in-None
returns-in-None c =
    any_length c.args.version (c.args.name.now ∷ left c.args.words) c.parse_long.result c.in-None.ensures c.parse_long.ensures
