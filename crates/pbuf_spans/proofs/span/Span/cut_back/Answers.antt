use Rattle.std.proofs.Common.{◌≡◌, ◌-◌, sym, ◌∙◌, length, arith}
use Rattle.std.proofs.lemmas.List.{take_all}
use Rattle.pbuf_spans.specs.Parts.{joined}
use Rattle.pbuf_spans.proofs.Ends.{back_all}
use Rattle.pbuf_spans.proofs.Cutting.{back_first, back_next}
use Rattle.pbuf_spans.proofs.span.Span.cut_back.Goals as goal

pub loop-left-init : goal.loop-left-init
loop-left-init c = back_first _ _ _ c.requires.chain c.requires.within c.requires.listed

pub loop-left-preserved : goal.loop-left-preserved
loop-left-preserved c = let e = c.cut_last-left.ensures in back_next _ _ _ _ _ _ _ _ _ c.loop-left.invariant e.octets e.left e.count e.chain e.cut

pub returns : goal.returns
returns c = let f = c.loop-left.invariant in let none : c.loop-left.left ≡ 0 = let t = c.loop-left-test.false in omega arith in record {
  octets = sym (take_all (length (joined c.loop-left.self) - c.loop-left.left) (joined c.loop-left.self) (omega arith)) ∙ f.octets;
  left = sym (back_all c.loop-left.self (length (joined c.loop-left.self) - c.loop-left.left) (omega arith) f.chain.some) ∙ f.left_parts;
  chain = f.chain;
  listed = f.listed;
  cut = f.cut;
}
