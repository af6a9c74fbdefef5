use Rattle.std.proofs.Common.{length, ap, ◌∙◌}
use Rattle.lw_reass.specs.Opens.{bodies_in}
use Rattle.lw_reass.proofs.Adds.{all_seen}
use Rattle.lw_reass.proofs.table.Reass.kept.Goals as goal

pub returns : goal.returns
returns g c =
    c.count_in.ensures ∙ ap (λ os. length (bodies_in os)) c.deref.ensures.value
    ∙ ap length (all_seen c.args.self.now c.self.inside.opens.items (ap (λ r. r.kept) c.self.view_is))
