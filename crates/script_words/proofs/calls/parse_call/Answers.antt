use Rattle.std.proofs.Common.{◌∷◌, ◌∙◌, sym}
use Rattle.script_words.specs.Words.{left}
use Rattle.script_words.proofs.CallLaws.{actor_line, no_actor_line}
use Rattle.script_words.proofs.calls.parse_call.Goals as goal

pub returns-in-Some : goal.returns-in-Some
returns-in-Some c =
    actor_line c.args.version c.args.line.now (c.in-Some.name.now ∷ left c.in-Some.words) c.parse_named.result (sym c.in-Some.ensures ∙ c.of.ensures) c.parse_named.ensures

pub returns-in-None : goal.returns-in-None
returns-in-None c = no_actor_line c.args.version c.args.line.now (sym c.in-None.ensures ∙ c.of.ensures)
