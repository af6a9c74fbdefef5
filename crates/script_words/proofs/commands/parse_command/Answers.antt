use Rattle.script_words.specs.Words.{left}
use Rattle.script_words.proofs.CallLaws.{driver_line}
use Rattle.script_words.proofs.commands.parse_command.Goals as goal

pub returns : goal.returns
returns c =
    driver_line c.args.line.now (left c.of.result) c.parse_command_words.result c.of.ensures c.parse_command_words.ensures
