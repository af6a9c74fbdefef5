use Rattle.std.proofs.Common.{◌≡◌, length, ap, ◌∙◌, arith}
use Rattle.lw_runs.proofs.RunsLaws.{few_octets}
use Rattle.lw_runs.proofs.runs.Runs.parts.Goals as goal

pub returns-clause-few : goal.returns-clause-few
returns-clause-few g c =
    let reach : c.self.inside.reach ≡ length c.args.self.now.octets = c.self.invariant.reach ∙ ap (λ k. length k.octets) c.self.view_is in
    let few = (few_octets g.P.Payload.seen c.self.inside.chunks.runs _ _ _ _ c.self.invariant).1 in let parts = c.self.invariant.few in omega arith
