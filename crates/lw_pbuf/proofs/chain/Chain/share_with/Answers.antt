use Rattle.std.proofs.Common.{rules, ◌≡◌, ◌-◌, List, length, ap, sym, ◌∙◌, subst, arith}
use Rattle.std.specs.List.{refill}
use Rattle.std.specs.Arc.{arc_value}
use Rattle.atomic_table.specs.Seated.{TableId}
use Rattle.pbuf_spans.specs.Parts.{Part, IsChain}
use Rattle.lw_pbuf.specs.Chains.{ChainSeen, all_parts, NoneEmpty}
use Rattle.lw_pbuf.proofs.Rewriting.{refilled_same}
use Rattle.lw_pbuf.proofs.Sharing.{whole_share, one_second, one_none_empty, is_shared_to}
use Rattle.lw_pbuf.proofs.chain.Chain.share_with.Goals as goal

pub invariant_of-result : goal.invariant_of-result
invariant_of-result c =
    let table : arc_value c.self.inside.counts ≡ arc_value c.in_ok-counts.counts = ap (λ (x : ChainSeen). x.table) c.self.view_is ∙ (c.requires.table ∙ sym c.in_ok-counts.ensures.table) in
    let s = whole_share c.args.hands (arc_value c.self.inside.counts) c.self.inside.spans.items c.as_mut_slice.result.now c.share_one.new.spans c.from_buf.result.items c.self.invariant c.as_mut_slice.ensures.value c.share_one.auto.spans
    (one_second c.args.hands (all_parts c.as_mut_slice.result.now) (all_parts c.share_one.new.spans) c.in_ok-span.span c.from_buf.result.items c.from_buf.ensures.items c.in_ok-span.ensures.shared)
    c.share_one.ensures.full (λ some. one_none_empty c.in_ok-span.span c.from_buf.result.items c.from_buf.ensures.items (c.in_ok-span.ensures.some some)) in
    subst (λ (t : TableId). IsChain t (all_parts c.from_buf.result.items) × NoneEmpty c.from_buf.result.items) table s.second

pub invariant_of-self : goal.invariant_of-self
invariant_of-self c =
    let same : c.share_one.new.spans ≡ c.as_mut_slice.result.now = search rules in
    let back = refilled_same c.self.inside.spans.items c.share_one.new.spans (same ∙ c.as_mut_slice.ensures.value) in
    (subst (λ (l : List (List Part)). IsChain (arc_value c.self.inside.counts) (all_parts l)) (sym back) c.self.invariant.0, subst (λ (l : List (List Part)). NoneEmpty l) (sym back) c.self.invariant.1)

pub invariant_of-self-2 : goal.invariant_of-self-2
invariant_of-self-2 c =
    let s = whole_share c.args.hands (arc_value c.self.inside.counts) c.self.inside.spans.items c.as_mut_slice.result.now c.share_one.new.spans c.from_buf.result.items c.self.invariant c.as_mut_slice.ensures.value c.share_one.auto.spans
    (one_second c.args.hands (all_parts c.as_mut_slice.result.now) (all_parts c.share_one.new.spans) c.in_ok-span.span c.from_buf.result.items c.from_buf.ensures.items c.in_ok-span.ensures.shared)
    c.share_one.ensures.full (λ some. one_none_empty c.in_ok-span.span c.from_buf.result.items c.from_buf.ensures.items (c.in_ok-span.ensures.some some)) in
    s.first

pub returns-clause-shared : goal.returns-clause-shared
returns-clause-shared c =
    let s = whole_share c.args.hands (arc_value c.self.inside.counts) c.self.inside.spans.items c.as_mut_slice.result.now c.share_one.new.spans c.from_buf.result.items c.self.invariant c.as_mut_slice.ensures.value c.share_one.auto.spans
    (one_second c.args.hands (all_parts c.as_mut_slice.result.now) (all_parts c.share_one.new.spans) c.in_ok-span.span c.from_buf.result.items c.from_buf.ensures.items c.in_ok-span.ensures.shared)
    c.share_one.ensures.full (λ some. one_none_empty c.in_ok-span.span c.from_buf.result.items c.from_buf.ensures.items (c.in_ok-span.ensures.some some)) in
    let count = s.count in
    let view = ap (λ (x : ChainSeen). x.room) c.self.view_is in
    is_shared_to c.args.hands c.args.self.now
    record { table = arc_value c.self.inside.counts; parts = all_parts (refill (length c.self.inside.spans.items) c.self.inside.spans.items c.share_one.new.spans); room = c.self.inside.spans.capacity - length (refill (length c.self.inside.spans.items) c.self.inside.spans.items c.share_one.new.spans) }
    record { table = arc_value c.in_ok-counts.counts; parts = all_parts c.from_buf.result.items; room = c.from_buf.result.capacity - length c.from_buf.result.items }
    (all_parts c.self.inside.spans.items) (ap (λ (x : ChainSeen). x.parts) c.self.view_is) s.shared (ap (λ (x : ChainSeen). x.table) c.self.view_is) (c.in_ok-counts.ensures.table ∙ sym c.requires.table) (omega arith)
