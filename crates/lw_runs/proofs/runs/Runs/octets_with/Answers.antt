use Rattle.std.proofs.Common.{◌≡◌, take, drop, nat_lt, refl, ap, ◌∙◌}
use Rattle.std.specs.List.{position_or_len}
use Rattle.lw_runs.specs.Runs.{spread, bodies_of}
use Rattle.lw_runs.specs.Lists.{text_of}
use Rattle.lw_runs.proofs.RunsLaws.{runs_short}
use Rattle.lw_runs.proofs.Texts.{text_with, assembled}
use Rattle.lw_runs.proofs.runs.Runs.octets_with.Goals as goal

pub copy_front-requires : goal.copy_front-requires
copy_front-requires g c = record { order = c.self.invariant.order; short = runs_short g.P.Payload.seen c.self.inside.chunks.runs _ _ _ _ c.self.invariant }

pub copy_back-requires : goal.copy_back-requires
copy_back-requires g c = record { order = c.self.invariant.order; short = runs_short g.P.Payload.seen c.self.inside.chunks.runs _ _ _ _ c.self.invariant }

pub returns : goal.returns
returns g c =
    let seen = g.P.Payload.seen in
    let runs = c.self.inside.chunks.runs in
    let place = position_or_len (λ r. nat_lt c.args.from r.at) runs in
    let octets_are : spread seen 0 runs ≡ c.args.self.now.octets = ap (λ k. k.octets) c.self.view_is in
    assembled _ _ _ _ _ (text_of seen (bodies_of (take place runs))) c.args.text.now (text_of seen (bodies_of (drop place runs)))
    c.in_ok-all.ensures.items c.in_ok-copy_front.ensures c.in_ok-extend_from_slice.ensures.items c.in_ok-copy_back.ensures c.from_vec.ensures
    ∙ text_with seen runs c.args.from place c.args.text.now c.requires.some c.self.invariant.order (rw octets_are c.requires.free) refl
    ∙ rw octets_are refl
