use Rattle.std.proofs.Common.{take}
use Rattle.std.specs.List.{flat_map}
use Rattle.lw_transcript.specs.Page.{Prints}
use Rattle.lw_transcript.specs.CoreLines.{out_text}
use Rattle.lw_transcript.proofs.core_text.out_part.Given as goal

abbrev pub invariant-loop-octets : goal.invariant-loop-octets
invariant-loop-octets g l = Prints (g.K.Sink.seen l.fn.sink) (g.K.Sink.seen l.sink) l.fn.page l.page (flat_map out_text (take l.octets-index l.outs))
