use Rattle.std.proofs.Common.{◌≡◌, length, ap, sym, ◌∙◌, arith}
use Rattle.std.proofs.lemmas.List.{length-map}
use Rattle.lw_runs.proofs.RunsLaws.{few_runs}
use Rattle.lw_runs.proofs.runs.Runs.len.Goals as goal

pub returns-clause-exact : goal.returns-clause-exact
returns-clause-exact g c =
    c.self.invariant.all_runs ∙ sym (length-map c.self.inside.chunks.runs (λ r. r.body)) ∙ ap (λ k. length k.bodies) c.self.view_is

pub returns-clause-few : goal.returns-clause-few
returns-clause-few g c =
    let reach : c.self.inside.reach ≡ length c.args.self.now.octets = c.self.invariant.reach ∙ ap (λ k. length k.octets) c.self.view_is in
    let few = few_runs g.P.Payload.seen c.self.inside.chunks.runs _ _ _ _ c.self.invariant in
    let number = c.self.invariant.all_runs in
    omega arith
