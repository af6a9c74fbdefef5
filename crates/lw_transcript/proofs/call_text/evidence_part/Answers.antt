use Rattle.std.specs.List.{flat_map}
use Rattle.lw_transcript.specs.CallLines.{evidence_text}
use Rattle.lw_transcript.proofs.Printing.{Prints-each, Prints-whole}
use Rattle.lw_transcript.proofs.call_text.evidence_part.Goals as goal

pub loop-evidence-preserved : goal.loop-evidence-preserved
loop-evidence-preserved g c =
    Prints-each evidence_text c.args.seen.now c.loop-evidence.evidence-index c.evidence-item.result c.loop-evidence-test.true
    c.evidence-item.is c.loop-evidence.invariant c.evidence_line.ensures

pub returns : goal.returns
returns g c =
    Prints-whole (flat_map evidence_text) c.args.seen.now c.loop-evidence.evidence-index c.loop-evidence-test.false
    c.loop-evidence.invariant
