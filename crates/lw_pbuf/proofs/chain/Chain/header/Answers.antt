use Rattle.std.proofs.Common.{◌∙◌, ◌++◌, ℕ, List, length, take, ap, arith, take-append-drop, length-drop}
use Rattle.pbuf_spans.specs.Parts.{joined}
use Rattle.lw_pbuf.proofs.chain.Chain.header.Goals as goal

pub returns-clause-behind : goal.returns-clause-behind
returns-clause-behind c = let all = joined c.args.self.now.parts in ap (λ (l : List ℕ). take c.args.cut all ++ l) c.cut_front.ensures.octets ∙ take-append-drop c.args.cut all

pub returns-clause-length : goal.returns-clause-length
returns-clause-length c = let all = joined c.args.self.now.parts in let e = ap (λ (l : List ℕ). length l) c.cut_front.ensures.octets in let d = length-drop c.args.cut all in let w = c.requires.within in omega arith
