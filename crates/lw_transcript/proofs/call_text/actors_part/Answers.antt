use Rattle.std.proofs.Common.{arith}
use Rattle.lw_transcript.specs.Transcript.{actor_lines, numbered}
use Rattle.lw_transcript.proofs.Printing.{Prints-numbered, Prints-whole}
use Rattle.lw_transcript.proofs.call_text.actors_part.Goals as goal

pub loop-place-preserved : goal.loop-place-preserved
loop-place-preserved g c =
    Prints-numbered actor_lines 0 c.args.actors.now c.loop-place.place c.loop-place.place c.index-actors-place.result (omega arith)
    c.loop-place-test.true c.index-actors-place.is c.loop-place.invariant c.actor_part.ensures

pub returns : goal.returns
returns g c =
    Prints-whole (numbered actor_lines 0) c.args.actors.now c.loop-place.place c.loop-place-test.false c.loop-place.invariant
