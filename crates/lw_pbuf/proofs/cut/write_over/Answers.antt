use Rattle.std.proofs.Common.{rules, ◌≡◌, ◌<◌, List, length, get_or, refl, arith}
use Rattle.std.proofs.lemmas.List.{get_or_default}
use Rattle.pbuf_spans.specs.Parts.{Part, joined}
use Rattle.lw_pbuf.proofs.Rewriting.{writes_first, writes_enough, writes_own, writes_next, writes_last}
use Rattle.lw_pbuf.proofs.cut.write_over.Goals as goal

pub loop-span-init : goal.loop-span-init
loop-span-init c = writes_first _ _ c.requires.own c.requires.exact

pub split_at-requires : goal.split_at-requires
split_at-requires c =
    let l = c.loop-span in
    let inside : l.span-index < length l.spans = let t = c.loop-span-test.true in let a = l.auto.spans in omega arith in
    let p : List Part = get_or l.spans l.span-index c.span-item.result in
    let e = writes_enough c.args.spans.now l.spans l.span-index c.args.octets.now l.rest.now p l.invariant inside (get_or_default l.spans l.span-index c.span-item.result p inside) in
    let n = c.len.ensures in
    omega arith

pub write-requires-clause-own : goal.write-requires-clause-own
write-requires-clause-own c =
    let l = c.loop-span in
    let inside : l.span-index < length l.spans = let t = c.loop-span-test.true in let a = l.auto.spans in omega arith in
    let p : List Part = get_or l.spans l.span-index c.span-item.result in
    writes_own c.args.spans.now l.spans l.span-index c.args.octets.now l.rest.now p l.invariant inside (get_or_default l.spans l.span-index c.span-item.result p inside)

pub loop-span-preserved : goal.loop-span-preserved
loop-span-preserved c =
    let l = c.loop-span in
    let inside : l.span-index < length l.spans = let t = c.loop-span-test.true in let a = l.auto.spans in omega arith in
    let p : List Part = get_or l.spans l.span-index c.span-item.result in
    let is : p ≡ get_or l.spans l.span-index p = get_or_default l.spans l.span-index c.span-item.result p inside in
    let long : length c.split_at.result.0.now ≡ length (joined p) = let a = c.split_at.ensures.front_len in let b = c.len.ensures in omega arith in
    writes_next c.args.spans.now l.spans l.span-index c.args.octets.now l.rest.now p l.invariant inside is _ c.write.new.self c.split_at.result.0.now c.split_at.result.1.now c.write.ensures.octets c.write.ensures.same refl (search rules) long

pub returns : goal.returns
returns c =
    let l = c.loop-span in
    let w = writes_last c.args.spans.now l.spans l.span-index c.args.octets.now l.rest.now l.invariant (let t = c.loop-span-test.false in let a = l.auto.spans in omega arith) in
    record { octets = w.0; same = w.1; full = w.2 }
