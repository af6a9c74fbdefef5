use Rattle.std.proofs.Common.{◌≡◌, ℕ, ap, sym, ◌∙◌, drop, arith}
use Rattle.pbuf_spans.specs.Parts.{joined}
use Rattle.pbuf_spans.specs.Cuts.{without_front}
use Rattle.pbuf_spans.proofs.Ends.{front_none}
use Rattle.pbuf_spans.proofs.Cutting.{front_first, front_next}
use Rattle.pbuf_spans.proofs.span.Span.cut_front.Goals as goal

pub loop-left-init : goal.loop-left-init
loop-left-init c = front_first _ _ _ c.requires.chain c.requires.within c.requires.listed

pub loop-left-preserved : goal.loop-left-preserved
loop-left-preserved c = let e = c.cut_first-left.ensures in front_next _ _ _ _ _ _ _ _ _ c.loop-left.invariant e.octets e.left e.within e.chain e.cut

pub returns : goal.returns
returns c = let f = c.loop-left.invariant in let none : c.loop-left.left ≡ 0 = let t = c.loop-left-test.false in omega arith in record {
  octets = ap (λ (k : ℕ). drop k (joined c.loop-left.self)) (sym none) ∙ f.octets;
  left = sym (front_none c.loop-left.self f.chain.some) ∙ (ap (λ (k : ℕ). without_front k c.loop-left.self) (sym none) ∙ f.left_parts);
  chain = f.chain;
  listed = f.listed;
  cut = f.cut;
}
