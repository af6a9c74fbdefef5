use Rattle.std.proofs.Common.{rules, ◌≡◌, ◌-◌, ◌++◌, ◌∷◌, [], length, refl, sym, ◌∙◌, arith}
use Rattle.pbuf_spans.specs.Parts.{joined}
use Rattle.pbuf_spans.proofs.Ends.{back_all}
use Rattle.lw_pbuf.specs.Chains.{all_parts}
use Rattle.lw_pbuf.proofs.SpanCuts.{back_first, back_less, back_next}
use Rattle.lw_pbuf.proofs.cut.back_off.Goals as goal

pub loop-left-init : goal.loop-left-init
loop-left-init c = record { under_way = back_first c.args.seat.now c.args.spans.now.items c.args.n (record { chain = c.requires.chain; listed = c.requires.listed }) c.requires.full; capacity = refl }

pub loop-left-smaller : goal.loop-left-smaller
loop-left-smaller c =
    let l = c.loop-left in
    let is : l.spans.items ≡ c.pop_last.new.spans.items ++ c.in-Some.last ∷ [] = search rules in
    let s = back_less c.args.seat.now l.seat c.args.spans.now.items l.spans.items c.pop_last.new.spans.items c.in-Some.last c.args.n l.left l.invariant.under_way is c.loop-left-test.true in
    let e = c.cut_last-left.ensures.left in
    omega arith

pub loop-left-preserved : goal.loop-left-preserved
loop-left-preserved c =
    let l = c.loop-left in
    let is : l.spans.items ≡ c.pop_last.new.spans.items ++ c.in-Some.last ∷ [] = search rules in
    let e = c.cut_last-left.ensures in
    record {
      under_way = back_next c.args.seat.now l.seat c.args.spans.now.items l.spans.items c.pop_last.new.spans.items c.in-Some.last c.args.n l.left l.invariant.under_way is
          c.cut_last-left.new.seat c.cut_last-left.new.spans.items c.cut_last-left.result e.left (λ more. search rules) e.octets e.left_parts e.chain e.listed e.cut e.full e.fewer;
      capacity = e.capacity ∙ (c.pop_last.ensures.capacity ∙ l.invariant.capacity);
    }

pub returns-clause-left_parts : goal.returns-clause-left_parts
returns-clause-left_parts c =
    let f = c.loop-left.invariant.under_way in
    let parts = all_parts c.loop-left.spans.items in
    let none : c.loop-left.left ≡ 0 = let t = c.loop-left-test.false in omega arith in
    sym (back_all parts (length (joined parts) - c.loop-left.left) (omega arith) f.cuts.may.chain.some) ∙ f.left_parts
