use Rattle.std.specs.List.{flat_map}
use Rattle.lw_transcript.proofs.Printing.{Prints-same, Prints-then, Prints-whole}
use Rattle.lw_transcript.proofs.FieldLists.{Prints-field, given_text, given_texts}
use Rattle.lw_transcript.proofs.fields.behind.Goals as goal

pub loop-one-preserved : goal.loop-one-preserved
loop-one-preserved g c =
    Prints-field c.args.fields.now c.loop-one.one-index _ c.loop-one-test.true c.loop-one.invariant (Prints-then c.text.ensures c.print_field.ensures)

pub returns : goal.returns
returns g c =
    Prints-same
    (Prints-whole (flat_map given_text) c.args.fields.now c.loop-one.one-index c.loop-one-test.false c.loop-one.invariant)
    (given_texts c.args.fields.now)
