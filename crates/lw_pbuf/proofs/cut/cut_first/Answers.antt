use Rattle.std.proofs.Common.{rules, ◌≡◌, ◌∙◌, List, length, get_or, ap, refl, arith}
use Rattle.pbuf_spans.specs.Parts.{Part, joined}
use Rattle.lw_pbuf.proofs.Freed.{give-few}
use Rattle.lw_pbuf.proofs.SpanCuts.{first_span, first_lent, same_first, front_part, front_whole}
use Rattle.lw_pbuf.proofs.Rewriting.{set_back}
use Rattle.lw_pbuf.proofs.cut.cut_first.Goals as goal

pub cut_front-requires : goal.cut_front-requires
cut_front-requires c =
    let r = c.requires in
    let some = r.some in
    let within = r.within in
    let ss = c.args.spans.now.items in
    let p : List Part = get_or c.as_mut_slice.result.now 0 c.index-as_mut_slice-0.result in
    let at : p ≡ get_or ss 0 p = first_lent ss c.as_mut_slice.result.now c.index-as_mut_slice-0.result (omega arith) c.as_mut_slice.ensures.value in
    let m = first_span c.args.seat.now ss p (record { chain = r.chain; listed = r.listed }) (omega arith) at in
    let same = ap (λ (l : List Part). length (joined l)) (same_first ss c.index-as_slice-0.result p (omega arith) (c.index-as_slice-0.is ∙ ap (λ (l : List (List Part)). get_or l 0 c.index-as_slice-0.result) c.as_slice.ensures) at) in
    let len = c.len-len.ensures in
    let short = c.if-n-len.true in
    record { within = omega arith; chain = m.chain; listed = m.listed }

pub returns-then-n-len : goal.returns-then-n-len
returns-then-n-len c =
    let r = c.requires in
    let e = c.cut_front.ensures in
    let some = r.some in
    let within = r.within in
    let ss = c.args.spans.now.items in
    let p : List Part = get_or c.as_mut_slice.result.now 0 c.index-as_mut_slice-0.result in
    let at : p ≡ get_or ss 0 p = first_lent ss c.as_mut_slice.result.now c.index-as_mut_slice-0.result (omega arith) c.as_mut_slice.ensures.value in
    let same = ap (λ (l : List Part). length (joined l)) (same_first ss c.index-as_slice-0.result p (omega arith) (c.index-as_slice-0.is ∙ ap (λ (l : List (List Part)). get_or l 0 c.index-as_slice-0.result) c.as_slice.ensures) at) in
    let len = c.len-len.ensures in
    let short = c.if-n-len.true in
    let s = front_part c.args.seat.now c.cut_front.new.seat ss _ p c.cut_front.new.self c.args.n (record { chain = r.chain; listed = r.listed }) r.full r.some r.within
    at (omega arith) e.octets e.left e.chain e.cut (set_back ss c.as_mut_slice.result.now c.cut_front.new.self c.as_mut_slice.ensures.value) in
    record { octets = s.octets; left_parts = s.left_parts; within = s.within; less = s.less; chain = s.cuts.may.chain; full = s.full; cut = s.cuts.cut; capacity = search rules; fewer = s.fewer }

pub give_up-requires : goal.give_up-requires
give_up-requires c =
    let r = c.requires in
    let some = r.some in
    let within = r.within in
    let m = first_span c.args.seat.now c.args.spans.now.items c.remove-first.result (record { chain = r.chain; listed = r.listed }) (omega arith) c.remove-first.ensures.value in
    record { under = m.chain.under; listed = m.listed; few = give-few c.args.seat.now c.remove-first.result m }

pub returns : goal.returns
returns c =
    let r = c.requires in
    let some = r.some in
    let within = r.within in
    let same = ap (λ (l : List Part). length (joined l)) (same_first c.args.spans.now.items c.index-as_slice-0.result c.remove-first.result (omega arith) (c.index-as_slice-0.is ∙ ap (λ (l : List (List Part)). get_or l 0 c.index-as_slice-0.result) c.as_slice.ensures) c.remove-first.ensures.value) in
    let len = c.len-len.ensures in
    let s = front_whole c.args.seat.now c.give_up.new.seat c.args.spans.now.items c.remove-first.new.self.items c.remove-first.result c.args.n c.len-len.result _ (record { chain = r.chain; listed = r.listed }) r.full r.some r.within
    c.remove-first.ensures.value (omega arith) c.if-n-len.false refl c.remove-first.ensures.items c.give_up.ensures.spent in
    record { octets = s.octets; left_parts = s.left_parts; within = s.within; less = s.less; chain = s.cuts.may.chain; full = s.full; cut = s.cuts.cut; capacity = search rules; fewer = s.fewer }
