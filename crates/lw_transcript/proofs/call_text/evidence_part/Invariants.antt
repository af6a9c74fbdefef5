use Rattle.std.proofs.Common.{take}
use Rattle.std.specs.List.{flat_map}
use Rattle.lw_transcript.specs.Page.{Prints}
use Rattle.lw_transcript.specs.CallLines.{evidence_text}
use Rattle.lw_transcript.proofs.call_text.evidence_part.Given as goal

abbrev pub invariant-loop-evidence : goal.invariant-loop-evidence
invariant-loop-evidence g l = Prints (g.K.Sink.seen l.fn.sink) (g.K.Sink.seen l.sink) l.fn.page l.page (flat_map evidence_text (take l.evidence-index l.seen))
