use Rattle.std.proofs.Common.{get_or}
use Rattle.std.proofs.lemmas.List.{get_or_default}
use Rattle.std.specs.List.{flat_map}
use Rattle.lw_transcript.specs.declared.lines.Left.{Left}
use Rattle.lw_transcript.specs.Transcript.{left_text}
use Rattle.lw_transcript.proofs.Printing.{Prints-each, Prints-whole}
use Rattle.lw_transcript.proofs.spelling.left_part.Goals as goal

pub loop-one-preserved : goal.loop-one-preserved
loop-one-preserved g c =
    let left = c.args.left.now in
    let i = c.loop-one.one-index in
    let inside = c.loop-one-test.true in
    let none : Left = record { conn = 0; ticket = 0; from = 0 } in
    Prints-each left_text left i (get_or left i none) inside (get_or_default left i none (get_or left i none) inside)
    c.loop-one.invariant c.left_line.ensures

pub returns : goal.returns
returns g c =
    Prints-whole (flat_map left_text) c.args.left.now c.loop-one.one-index c.loop-one-test.false c.loop-one.invariant
