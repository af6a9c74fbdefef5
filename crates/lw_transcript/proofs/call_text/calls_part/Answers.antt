use Rattle.std.proofs.Common.{◌+◌, arith}
use Rattle.lw_transcript.specs.CallLines.{call_lines}
use Rattle.lw_transcript.specs.Transcript.{numbered}
use Rattle.lw_transcript.proofs.Printing.{Prints-numbered, Prints-whole}
use Rattle.lw_transcript.proofs.call_text.calls_part.Goals as goal

pub loop-place-preserved : goal.loop-place-preserved
loop-place-preserved g c =
    Prints-numbered call_lines 1 c.args.calls.now c.loop-place.place (c.loop-place.place + 1) c.index-calls-place.result (omega arith)
    c.loop-place-test.true c.index-calls-place.is c.loop-place.invariant c.call_part.ensures

pub returns : goal.returns
returns g c =
    Prints-whole (numbered call_lines 1) c.args.calls.now c.loop-place.place c.loop-place-test.false c.loop-place.invariant
