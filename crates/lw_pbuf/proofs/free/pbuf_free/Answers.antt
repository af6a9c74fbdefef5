use Rattle.std.proofs.Common.{ap, sym, subst, List}
use Rattle.pbuf_seats.specs.Seats.{SeatSeen}
use Rattle.pbuf_spans.specs.Parts.{Part, IsSpent}
use Rattle.lw_pbuf.specs.Chains.{ChainSeen, all_parts}
use Rattle.lw_pbuf.proofs.Freed.{of_chain}
use Rattle.lw_pbuf.proofs.free.pbuf_free.Goals as goal

pub give_up_spans-ended-requires : goal.give_up_spans-ended-requires
give_up_spans-ended-requires c =
    let m = of_chain c.args.seat.now _ c.args.c (all_parts c.c.inside.spans.items) c.requires (ap (λ (x : ChainSeen). x.parts) c.c.view_is) (ap (λ (x : ChainSeen). x.table) c.c.view_is) c.c.invariant.0 in
    record { chain = m.chain; listed = m.listed }

pub returns-clause-spent : goal.returns-clause-spent
returns-clause-spent c =
    subst (λ (k : SeatSeen). IsSpent c.args.seat.now k c.args.c.parts) (sym c.keep_counts.ensures)
    (subst (λ (l : List Part). IsSpent c.args.seat.now c.give_up_spans-ended.new.seat l) (ap (λ (x : ChainSeen). x.parts) c.c.view_is) c.give_up_spans-ended.ensures.spent)
