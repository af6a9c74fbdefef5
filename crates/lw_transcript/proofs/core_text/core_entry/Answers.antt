use Rattle.std.proofs.Common.{ap}
use Rattle.std.specs.List.{flat_map}
use Rattle.lw_transcript.specs.CoreLines.{out_text, post_text}
use Rattle.lw_transcript.proofs.Printing.{Prints-then, Prints-same}
use Rattle.lw_transcript.proofs.core_text.core_entry.Goals as goal

pub returns : goal.returns
returns g c =
    let posts = Prints-same c.post_part.ensures (ap (flat_map post_text) c.as_slice.ensures) in
    Prints-then (Prints-then c.core_line.ensures posts) (Prints-same c.out_part.ensures (ap (flat_map out_text) c.as_slice-2.ensures))
