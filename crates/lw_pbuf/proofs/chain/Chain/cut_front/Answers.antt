use Rattle.std.proofs.Common.{◌≡◌, ◌≤◌, ◌∙◌, drop, length, ap, sym, subst}
use Rattle.atomic_table.specs.Seated.{TableId}
use Rattle.pbuf_spans.specs.Parts.{joined, IsChain}
use Rattle.lw_pbuf.specs.Chains.{ChainSeen, all_parts}
use Rattle.pbuf_spans.specs.Cuts.{without_front, IsCutTo}
use Rattle.lw_pbuf.proofs.Joined.{few_parts}
use Rattle.lw_pbuf.proofs.Freed.{of_chain}
use Rattle.lw_pbuf.proofs.chain.Chain.cut_front.Goals as goal

pub front_off-requires : goal.front_off-requires
front_off-requires c =
    let may = of_chain c.args.seat.now _ c.args.self.now (all_parts c.self.inside.spans.items) c.requires.of_seat (ap (λ (x : ChainSeen). x.parts) c.self.view_is) (ap (λ (x : ChainSeen). x.table) c.self.view_is) c.self.invariant.0 in
    record {
      within = subst (λ (x : ChainSeen). c.args.n ≤ length (joined x.parts)) (sym c.self.view_is) c.requires.within;
      chain = may.chain;
      full = c.self.invariant.1;
      listed = may.listed;
    }

pub invariant_of-self : goal.invariant_of-self
invariant_of-self c = (
  subst (λ (t : TableId). IsChain t (all_parts c.front_off.new.spans.items)) (c.front_off.ensures.cut.same.table ∙ sym (ap (λ (x : ChainSeen). x.table) c.self.view_is ∙ c.requires.of_seat.table)) c.front_off.ensures.chain,
  c.front_off.ensures.full,
)

pub returns-clause-octets : goal.returns-clause-octets
returns-clause-octets c = c.front_off.ensures.octets ∙ ap (λ (x : ChainSeen). drop c.args.n (joined x.parts)) c.self.view_is

pub returns-clause-left : goal.returns-clause-left
returns-clause-left c = c.front_off.ensures.left_parts ∙ ap (λ (x : ChainSeen). without_front c.args.n x.parts) c.self.view_is

pub returns-clause-cut : goal.returns-clause-cut
returns-clause-cut c = subst (λ (x : ChainSeen). IsCutTo c.args.seat.now c.front_off.new.seat x.parts (all_parts c.front_off.new.spans.items)) c.self.view_is c.front_off.ensures.cut

pub returns-clause-few : goal.returns-clause-few
returns-clause-few c = few_parts (all_parts c.front_off.new.spans.items) c.front_off.ensures.chain.some
