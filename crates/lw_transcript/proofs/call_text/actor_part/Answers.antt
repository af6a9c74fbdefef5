use Rattle.std.proofs.Common.{ap}
use Rattle.lw_transcript.specs.CallLines.{call_lines}
use Rattle.lw_transcript.specs.Transcript.{numbered}
use Rattle.lw_transcript.proofs.Printing.{Prints-then, Prints-same}
use Rattle.lw_transcript.proofs.call_text.actor_part.Goals as goal

pub returns : goal.returns
returns g c =
    Prints-then c.actor_line.ensures (Prints-same c.calls_part.ensures (ap (numbered call_lines 1) c.as_slice.ensures))
