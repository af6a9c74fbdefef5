use Rattle.std.proofs.Common.{◌∷◌, ◌∙◌, ap}
use Rattle.lw_payload.specs.Views.{Pools}
use Rattle.lw_payload.specs.declared.kinds.Kind.TheVariants.{Pool}
use Rattle.lw_core.specs.Held.{held_by}
use Rattle.lw_layers.proofs.PostLaws.{posted_owned}
use Rattle.lw_core.proofs.OwnLaws.{made_owned}
use Rattle.bench_core.proofs.rounds.feed.Goals as goal

pub step-requires-clause-owned : goal.step-requires-clause-owned
step-requires-clause-owned g c =
    made_owned g.P.Payload.seen (g.P.Payload.home_seen c.args.home.now) (g.P.Payload.home_seen c.make.new.home) Pool c.args.octets.now c.in-Ok.frame (held_by c.args.core.now) c.in-Ok.ensures.made c.make.ensures.keeps.pools c.requires.short c.requires.owned

pub step-requires-clause-fits : goal.step-requires-clause-fits
step-requires-clause-fits g c = λ ip port p family. c.requires.fits ip port p (family ∙ ap (λ (x : Pools). x.family) c.make.ensures.keeps.pools)

pub returns-in-Ok-step-clause-owned : goal.returns-in-Ok-step-clause-owned
returns-in-Ok-step-clause-owned g c =
    posted_owned g.P.Payload.seen (g.P.Payload.home_seen c.make.new.home) (g.P.Payload.home_seen c.step.new.home) c.in-Ok-step.entry.posts (g.B.Boxes.seen c.args.boxes.now) (g.B.Boxes.seen c.step.new.boxes) (c.in-Ok.frame ∷ held_by c.args.core.now) (held_by c.step.new.self)
    (made_owned g.P.Payload.seen (g.P.Payload.home_seen c.args.home.now) (g.P.Payload.home_seen c.make.new.home) Pool c.args.octets.now c.in-Ok.frame (held_by c.args.core.now) c.in-Ok.ensures.made c.make.ensures.keeps.pools c.requires.short c.requires.owned)
    c.in-Ok-step.ensures.posting
