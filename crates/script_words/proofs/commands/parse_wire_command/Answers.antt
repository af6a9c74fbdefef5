use Rattle.script_words.specs.Words.{left}
use Rattle.script_words.proofs.CallLaws.{wire_line}
use Rattle.script_words.proofs.commands.parse_wire_command.Goals as goal

pub returns : goal.returns
returns c =
    wire_line c.args.line.now (left c.of.result) c.parse_wire_words.result c.of.ensures c.parse_wire_words.ensures
