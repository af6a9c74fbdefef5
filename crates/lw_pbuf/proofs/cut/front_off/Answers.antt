use Rattle.std.proofs.Common.{◌≡◌, ℕ, refl, ap, sym, ◌∙◌, drop, arith}
use Rattle.pbuf_spans.specs.Parts.{joined}
use Rattle.lw_pbuf.specs.Chains.{all_parts}
use Rattle.pbuf_spans.specs.Cuts.{without_front}
use Rattle.pbuf_spans.proofs.Ends.{front_none}
use Rattle.pbuf_spans.proofs.Cutting.{front_first, front_next}
use Rattle.lw_pbuf.proofs.cut.front_off.Goals as goal

pub loop-left-init : goal.loop-left-init
loop-left-init c = record { under_way = front_first c.args.seat.now (all_parts c.args.spans.now.items) c.args.n c.requires.chain c.requires.within c.requires.listed; full = c.requires.full; capacity = refl; fewer = omega arith }

pub loop-left-preserved : goal.loop-left-preserved
loop-left-preserved c =
    let l = c.loop-left in
    let i = l.invariant in
    let e = c.cut_first-left.ensures in
    let old = i.fewer in
    let new = e.fewer in
    record {
      under_way = front_next c.args.seat.now l.seat c.cut_first-left.new.seat (all_parts c.args.spans.now.items) (all_parts l.spans.items) (all_parts c.cut_first-left.new.spans.items) c.args.n l.left c.cut_first-left.result i.under_way e.octets e.left_parts e.within e.chain e.cut;
      full = e.full;
      capacity = e.capacity ∙ i.capacity;
      fewer = omega arith;
    }

pub returns : goal.returns
returns c =
    let i = c.loop-left.invariant in
    let f = i.under_way in
    let none : c.loop-left.left ≡ 0 = let t = c.loop-left-test.false in omega arith in
    record {
      left_parts = sym (front_none (all_parts c.loop-left.spans.items) f.chain.some) ∙ (ap (λ (k : ℕ). without_front k (all_parts c.loop-left.spans.items)) (sym none) ∙ f.left_parts);
      octets = ap (λ (k : ℕ). drop k (joined (all_parts c.loop-left.spans.items))) (sym none) ∙ f.octets;
      chain = f.chain;
      full = i.full;
      listed = f.listed;
      cut = f.cut;
      capacity = i.capacity;
      fewer = i.fewer;
    }
