use Rattle.std.proofs.Common.{take}
use Rattle.lw_transcript.specs.Page.{Prints}
use Rattle.lw_transcript.specs.Transcript.{actor_lines, numbered}
use Rattle.lw_transcript.proofs.call_text.actors_part.Given as goal

abbrev pub invariant-loop-place : goal.invariant-loop-place
invariant-loop-place g l = Prints (g.K.Sink.seen l.fn.sink) (g.K.Sink.seen l.sink) l.fn.page l.page (numbered actor_lines 0 (take l.place l.actors))
