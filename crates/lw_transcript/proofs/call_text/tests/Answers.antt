use Rattle.std.proofs.Common.{get_or}
use Rattle.std.proofs.lemmas.List.{get_or_default}
use Rattle.std.specs.List.{flat_map}
use Rattle.call_types.specs.declared.call.SelectItem.{SelectItem}
use Rattle.call_types.specs.declared.call.Test.TheVariants.{Readable}
use Rattle.lw_transcript.proofs.Printing.{Prints-each, Prints-same, Prints-whole}
use Rattle.lw_transcript.proofs.FieldLists.{test_behind, test_shown}
use Rattle.lw_transcript.proofs.call_text.tests.Goals as goal

pub loop-item-preserved : goal.loop-item-preserved
loop-item-preserved g c =
    let items = c.args.items.now in
    let i = c.loop-item.item-index in
    let inside = c.loop-item-test.true in
    let none : SelectItem = record { test = Readable; var = 0 } in
    let item = get_or items i none in
    Prints-each test_behind items i item inside (get_or_default items i none item inside)
    c.loop-item.invariant (Prints-same c.behind.ensures (test_shown item c.test_text.result.now c.test_text.ensures))

pub returns : goal.returns
returns g c =
    Prints-whole (flat_map test_behind) c.args.items.now c.loop-item.item-index c.loop-item-test.false c.loop-item.invariant
