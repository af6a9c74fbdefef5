use Rattle.std.proofs.Common.{take}
use Rattle.lw_transcript.specs.Page.{Prints}
use Rattle.lw_transcript.specs.CallLines.{call_lines}
use Rattle.lw_transcript.specs.Transcript.{numbered}
use Rattle.lw_transcript.proofs.call_text.calls_part.Given as goal

abbrev pub invariant-loop-place : goal.invariant-loop-place
invariant-loop-place g l = Prints (g.K.Sink.seen l.fn.sink) (g.K.Sink.seen l.sink) l.fn.page l.page (numbered call_lines 1 (take l.place l.calls))
