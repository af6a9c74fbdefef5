use Rattle.std.proofs.Common.{◌∙◌, List, get_or, ap, arith}
use Rattle.pbuf_spans.specs.Parts.{Part}
use Rattle.lw_pbuf.proofs.Parting.{Parted, part_whole}
use Rattle.lw_pbuf.proofs.parts.take_first.Goals as goal

whole : (c : goal.After-remove) → Parted c.args.spans.now.items c.remove.new.self.items c.remove.result
whole c =
    part_whole c.args.spans.now.items c.remove.new.self.items c.index-as_slice-0.result c.remove.result c.requires.full c.requires.some
    (c.index-as_slice-0.is ∙ ap (λ (l : List (List Part)). get_or l 0 c.index-as_slice-0.result) c.as_slice.ensures)
    (let n = c.clen.ensures in let one = c.if-clen-eq1.true in omega arith) c.remove.ensures.value c.remove.ensures.items

pub returns-then-clen-eq1-clause-first : goal.returns-then-clen-eq1-clause-first
returns-then-clen-eq1-clause-first c = (whole c).first

pub returns-then-clen-eq1-clause-rest : goal.returns-then-clen-eq1-clause-rest
returns-then-clen-eq1-clause-rest c = (whole c).rest

pub returns-then-clen-eq1-clause-full : goal.returns-then-clen-eq1-clause-full
returns-then-clen-eq1-clause-full c = (whole c).full
