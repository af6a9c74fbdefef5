use Rattle.std.specs.List.{flat_map}
use Rattle.lw_transcript.specs.CoreLines.{post_text}
use Rattle.lw_transcript.proofs.Printing.{Prints-each, Prints-whole}
use Rattle.lw_transcript.proofs.core_text.post_part.Goals as goal

pub loop-post-preserved : goal.loop-post-preserved
loop-post-preserved g c =
    Prints-each post_text c.args.posts.now c.loop-post.post-index c.post-item.result c.loop-post-test.true c.post-item.is
    c.loop-post.invariant c.post_line.ensures

pub returns : goal.returns
returns g c =
    Prints-whole (flat_map post_text) c.args.posts.now c.loop-post.post-index c.loop-post-test.false c.loop-post.invariant
