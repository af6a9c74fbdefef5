use Rattle.std.proofs.Common.{take}
use Rattle.std.specs.List.{flat_map}
use Rattle.lw_transcript.specs.Page.{Prints}
use Rattle.lw_transcript.proofs.FieldLists.{test_behind}
use Rattle.lw_transcript.proofs.call_text.tests.Given as goal

abbrev pub invariant-loop-item : goal.invariant-loop-item
invariant-loop-item g l = Prints (g.K.Sink.seen l.fn.sink) (g.K.Sink.seen l.sink) l.fn.page l.page (flat_map test_behind (take l.item-index l.items))
