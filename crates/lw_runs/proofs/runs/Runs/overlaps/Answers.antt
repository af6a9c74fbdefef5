use Rattle.std.proofs.Common.{ap, ◌∙◌}
use Rattle.lw_runs.specs.Positions.{overlaps}
use Rattle.lw_runs.proofs.RunsLaws.{overlaps_is}
use Rattle.lw_runs.proofs.runs.Runs.overlaps.Goals as goal

pub returns : goal.returns
returns g c =
    c.any_between.ensures ∙ overlaps_is g.P.Payload.seen c.self.inside.chunks.runs c.args.from c.args.n c.requires.some c.self.invariant.order
    ∙ ap (λ k. overlaps k.octets c.args.from c.args.n) c.self.view_is
