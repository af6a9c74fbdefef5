use Rattle.std.proofs.Common.{ap}
use Rattle.std.specs.List.{flat_map}
use Rattle.lw_transcript.specs.CoreLines.{out_text}
use Rattle.lw_transcript.proofs.Printing.{Prints-each, Prints-same, Prints-whole}
use Rattle.lw_transcript.proofs.core_text.out_part.Goals as goal

pub loop-octets-preserved : goal.loop-octets-preserved
loop-octets-preserved g c =
    Prints-each out_text c.args.outs.now c.loop-octets.octets-index c.octets-item.result c.loop-octets-test.true c.octets-item.is
    c.loop-octets.invariant (Prints-same c.out_line.ensures (ap out_text c.as_slice.ensures))

pub returns : goal.returns
returns g c =
    Prints-whole (flat_map out_text) c.args.outs.now c.loop-octets.octets-index c.loop-octets-test.false c.loop-octets.invariant
