use Rattle.std.proofs.Common.{◌∙◌, ap, sym}
use Rattle.lw_arp.specs.Neighbours.{state_of}
use Rattle.lw_arp.proofs.MapLaws.{state_of-map_entries}
use Rattle.lw_link.specs.Plans.{known}
use Rattle.lw_link.proofs.plan.LinkPlan.state_of.Goals as goal

pub returns-in-None : goal.returns-in-None
returns-in-None g c =
    c.state_of-in-None.ensures ∙ sym (state_of-map_entries (λ _. tt) c.args.table.now c.args.hop)
    ∙ ap (λ k. state_of (known k c.args.table.now) c.args.hop) (sym c.in-None.is)
