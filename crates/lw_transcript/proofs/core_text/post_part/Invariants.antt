use Rattle.std.proofs.Common.{take}
use Rattle.std.specs.List.{flat_map}
use Rattle.lw_transcript.specs.Page.{Prints}
use Rattle.lw_transcript.specs.CoreLines.{post_text}
use Rattle.lw_transcript.proofs.core_text.post_part.Given as goal

abbrev pub invariant-loop-post : goal.invariant-loop-post
invariant-loop-post g l = Prints (g.K.Sink.seen l.fn.sink) (g.K.Sink.seen l.sink) l.fn.page l.page (flat_map post_text (take l.post-index l.posts))
