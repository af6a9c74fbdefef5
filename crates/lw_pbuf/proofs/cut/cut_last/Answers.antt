use Rattle.std.proofs.Common.{◌<◌, length, refl, arith}
use Rattle.pbuf_spans.specs.Parts.{joined}
use Rattle.lw_pbuf.specs.Chains.{all_parts}
use Rattle.lw_pbuf.proofs.Freed.{give-back, give-few}
use Rattle.lw_pbuf.proofs.SpanCuts.{back_part, back_whole}
use Rattle.lw_pbuf.proofs.cut.cut_last.Goals as goal

pub cut_back-requires : goal.cut_back-requires
cut_back-requires c =
    let r = c.requires in
    let m = give-back c.args.seat.now (all_parts c.args.spans.now.items) c.args.last (record { chain = r.chain; listed = r.listed }) in
    record { within = let len = c.len-len.ensures in let short = c.if-n-len.true in omega arith; chain = m.chain; listed = m.listed }

pub returns-then-n-len : goal.returns-then-n-len
returns-then-n-len c =
    let r = c.requires in
    let e = c.cut_back.ensures in
    let len = c.len-len.ensures in
    let test = c.if-n-len.true in
    let short : c.args.n < length (joined c.args.last) = omega arith in
    let s = back_part c.args.seat.now c.cut_back.new.seat c.args.spans.now.items c.push_reserved.new.self.items c.args.last c.cut_back.new.self c.args.n (record { chain = r.chain; listed = r.listed }) r.full short
    e.octets e.left e.chain e.cut c.push_reserved.ensures.items in
    record {
      left = omega arith;
      octets = s.octets;
      left_parts = s.left_parts;
      same = λ more. absurd (omega arith);
      chain = s.cuts.may.chain;
      full = s.full;
      listed = s.cuts.may.listed;
      cut = s.cuts.cut;
      capacity = c.push_reserved.ensures.capacity;
      fewer = s.fewer;
    }

pub give_up-requires : goal.give_up-requires
give_up-requires c =
    let r = c.requires in
    let m = give-back c.args.seat.now (all_parts c.args.spans.now.items) c.args.last (record { chain = r.chain; listed = r.listed }) in
    record { under = m.chain.under; listed = m.listed; few = give-few c.args.seat.now c.args.last m }

pub returns : goal.returns
returns c =
    let r = c.requires in
    let len = c.len-len.ensures in
    let s = back_whole c.args.seat.now c.give_up.new.seat c.args.spans.now.items c.args.last c.args.n c.len-len.result _ (record { chain = r.chain; listed = r.listed }) r.full len c.if-n-len.false refl c.give_up.ensures.spent in
    record {
      left = omega arith;
      octets = s.octets;
      left_parts = s.left_parts;
      same = λ more. refl;
      chain = s.cuts.may.chain;
      full = s.full;
      listed = s.cuts.may.listed;
      cut = s.cuts.cut;
      capacity = refl;
      fewer = s.fewer;
    }
