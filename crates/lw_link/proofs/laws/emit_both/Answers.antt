use Rattle.std.proofs.Common.{◌∙◌, [], ap, refl}
use Rattle.lw_arp.specs.Neighbours.{map_entries}
use Rattle.lw_arp.proofs.MapLaws.{keys-map_entries, state_of-map_entries}
use Rattle.lw_link.specs.Way.{Link, Way, emit}
use Rattle.lw_link.specs.Plans.{IsOver}
use Rattle.lw_link.proofs.WayLaws.{asks_once}
use Rattle.lw_link.proofs.laws.emit_both.Goals as goal

pub returns : goal.returns
returns g c =
    let own = c.args.netif.now in
    let head = c.args.head.now in
    let t = c.args.table.now in
    let l : Link = record { net = own; neighbours = map_entries (λ _. []) t; next_id = 0 } in
    let m : Way = record { link = l; out = [] } in
    let over : IsOver own t l = record { net = refl; keys = keys-map_entries (λ _. []) t } in
    let one = c.in_ok-emit.ensures.exact l m over (c.new-plan.ensures.exact l refl) in
    let two = c.in_ok-emit-2.ensures.exact l (emit c.args.may_wait m head c.args.first.now) over one in
    record {
      exact = λ k at id.
          c.in_ok-emit-2.ensures.exact k (emit c.args.may_wait (record { link = k; out = [] }) head c.args.first.now) at
          (c.in_ok-emit.ensures.exact k (record { link = k; out = [] }) at (c.new-plan.ensures.exact k id));
      once = λ hop route empty.
          ap (λ (w : Way). w.out) two.made
          ∙ asks_once c.args.may_wait l head c.args.first.now c.args.second.now hop route (state_of-map_entries (λ _. []) t hop ∙ empty);
    }
