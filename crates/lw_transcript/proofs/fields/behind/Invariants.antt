use Rattle.std.proofs.Common.{take}
use Rattle.std.specs.List.{flat_map}
use Rattle.lw_transcript.specs.Page.{Prints}
use Rattle.lw_transcript.proofs.FieldLists.{given_text}
use Rattle.lw_transcript.proofs.fields.behind.Given as goal

abbrev pub invariant-loop-one : goal.invariant-loop-one
invariant-loop-one g l = Prints (g.K.Sink.seen l.fn.sink) (g.K.Sink.seen l.sink) l.fn.page l.page (flat_map given_text (take l.one-index l.fields))
