use Rattle.std.proofs.Common.{rules, ◌≡◌, ◌-◌, List, length, ap, sym, ◌∙◌, subst, arith}
use Rattle.std.specs.List.{refill}
use Rattle.std.specs.Arc.{arc_value}
use Rattle.atomic_table.specs.Seated.{TableId}
use Rattle.pbuf_seats.specs.Seats.{SeatSeen}
use Rattle.pbuf_spans.specs.Parts.{Part, IsChain}
use Rattle.lw_pbuf.specs.Chains.{ChainSeen, all_parts, NoneEmpty}
use Rattle.pbuf_spans.specs.Shares.{MayShare}
use Rattle.lw_pbuf.proofs.Sharing.{whole_share, is_shared_to}
use Rattle.lw_pbuf.proofs.chain.Chain.share_all.Goals as goal

pub share_spans-requires-clause-may : goal.share_spans-requires-clause-may
share_spans-requires-clause-may c =
    let same : c.twins.new.seat ≡ c.args.seat.now = search rules in
    subst (λ (x : SeatSeen). MayShare x (all_parts c.as_mut_slice.result.now)) (sym same)
    (subst (λ (l : List (List Part)). MayShare c.args.seat.now (all_parts l)) (sym c.as_mut_slice.ensures.value)
    (subst (λ (l : List Part). MayShare c.args.seat.now l) (sym (ap (λ (x : ChainSeen). x.parts) c.self.view_is)) c.requires.may))

pub invariant_of-result : goal.invariant_of-result
invariant_of-result c =
    let s = whole_share c.args.hands (arc_value c.self.inside.counts) c.self.inside.spans.items c.as_mut_slice.result.now c.share_spans.new.spans c.share_spans.new.others.items c.self.invariant c.as_mut_slice.ensures.value c.share_spans.auto.spans
    c.share_spans.ensures.shared (λ some. (c.share_spans.ensures.full some).0) (λ some. (c.share_spans.ensures.full some).1) in
    subst (λ (t : TableId). IsChain t (all_parts c.share_spans.new.others.items) × NoneEmpty c.share_spans.new.others.items) (sym (c.requires.table ∙ sym (ap (λ (x : ChainSeen). x.table) c.self.view_is))) s.second

pub invariant_of-self : goal.invariant_of-self
invariant_of-self c =
    let s = whole_share c.args.hands (arc_value c.self.inside.counts) c.self.inside.spans.items c.as_mut_slice.result.now c.share_spans.new.spans c.share_spans.new.others.items c.self.invariant c.as_mut_slice.ensures.value c.share_spans.auto.spans
    c.share_spans.ensures.shared (λ some. (c.share_spans.ensures.full some).0) (λ some. (c.share_spans.ensures.full some).1) in
    s.first

pub returns-clause-shared : goal.returns-clause-shared
returns-clause-shared c =
    let s = whole_share c.args.hands (arc_value c.self.inside.counts) c.self.inside.spans.items c.as_mut_slice.result.now c.share_spans.new.spans c.share_spans.new.others.items c.self.invariant c.as_mut_slice.ensures.value c.share_spans.auto.spans
    c.share_spans.ensures.shared (λ some. (c.share_spans.ensures.full some).0) (λ some. (c.share_spans.ensures.full some).1) in
    let count = s.count in
    let view = ap (λ (x : ChainSeen). x.room) c.self.view_is in
    is_shared_to c.args.hands c.args.self.now
    record { table = arc_value c.self.inside.counts; parts = all_parts (refill (length c.self.inside.spans.items) c.self.inside.spans.items c.share_spans.new.spans); room = c.self.inside.spans.capacity - length (refill (length c.self.inside.spans.items) c.self.inside.spans.items c.share_spans.new.spans) }
    record { table = arc_value c.args.counts; parts = all_parts c.share_spans.new.others.items; room = c.share_spans.new.others.capacity - length c.share_spans.new.others.items }
    (all_parts c.self.inside.spans.items) (ap (λ (x : ChainSeen). x.parts) c.self.view_is) s.shared (ap (λ (x : ChainSeen). x.table) c.self.view_is) c.requires.table (omega arith)
