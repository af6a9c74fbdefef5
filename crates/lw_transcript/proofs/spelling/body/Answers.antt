use Rattle.std.proofs.Common.{ap}
use Rattle.std.specs.List.{flat_map}
use Rattle.lw_transcript.specs.CoreLines.{core_lines}
use Rattle.lw_transcript.specs.Transcript.{actor_lines, left_text, numbered}
use Rattle.lw_transcript.proofs.Printing.{Prints-then, Prints-same}
use Rattle.lw_transcript.proofs.spelling.body.Goals as goal

pub returns : goal.returns
returns g c =
    let core = Prints-same c.core_part.ensures (ap (flat_map core_lines) c.as_slice.ensures) in
    let actors = Prints-same c.actors_part.ensures (ap (numbered actor_lines 0) c.as_slice-2.ensures) in
    let left = Prints-same c.left_part.ensures (ap (flat_map left_text) c.as_slice-3.ensures) in
    Prints-then (Prints-then (Prints-then (Prints-then c.sizes_part.ensures core) actors) left) c.end_line.ensures
