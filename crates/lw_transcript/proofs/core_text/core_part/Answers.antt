use Rattle.std.specs.List.{flat_map}
use Rattle.lw_transcript.specs.CoreLines.{core_lines}
use Rattle.lw_transcript.proofs.Printing.{Prints-each, Prints-whole}
use Rattle.lw_transcript.proofs.core_text.core_part.Goals as goal

pub loop-line-preserved : goal.loop-line-preserved
loop-line-preserved g c =
    Prints-each core_lines c.args.lines.now c.loop-line.line-index c.line-item.result c.loop-line-test.true c.line-item.is
    c.loop-line.invariant c.core_entry.ensures

pub returns : goal.returns
returns g c =
    Prints-whole (flat_map core_lines) c.args.lines.now c.loop-line.line-index c.loop-line-test.false c.loop-line.invariant
