use Rattle.std.proofs.Common.{ap}
use Rattle.std.specs.List.{flat_map}
use Rattle.lw_transcript.specs.CallLines.{call_text, evidence_text}
use Rattle.lw_transcript.proofs.Printing.{Prints-then, Prints-same}
use Rattle.lw_transcript.proofs.call_text.call_part.Goals as goal

pub returns : goal.returns
returns g c =
    let line = Prints-same c.call_line.ensures (ap (call_text c.args.number) c.as_slice.ensures) in
    let seen = Prints-same c.evidence_part.ensures (ap (flat_map evidence_text) c.as_slice-2.ensures) in
    Prints-then (Prints-then line seen) c.did_line.ensures
