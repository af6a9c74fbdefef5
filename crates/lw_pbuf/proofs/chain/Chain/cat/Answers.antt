use Rattle.std.proofs.Common.{rules, ◌≡◌, ◌<◌, ◌∙◌, ◌++◌, List, length, length-append, ap, sym, arith}
use Rattle.std.specs.Arc.{arc_value}
use Rattle.std.proofs.lemmas.List.Elements.{All-append, All-same}
use Rattle.pbuf_spans.specs.Parts.{Part, joined}
use Rattle.lw_pbuf.specs.Chains.{ChainSeen, all_parts}
use Rattle.lw_pbuf.proofs.Joined.{put_behind}
use Rattle.lw_pbuf.proofs.Spans.{few_spans, all_parts-append}
use Rattle.lw_pbuf.proofs.chain.Chain.cat.Goals as goal

pub unwrap-requires : goal.unwrap-requires
unwrap-requires c =
    let few = few_spans c.tail.inside.spans.items c.tail.invariant.1 in
    let v : length (all_parts c.tail.inside.spans.items) ≡ length c.args.tail.parts = ap (λ (x : ChainSeen). length x.parts) c.tail.view_is in
    let some : 0 < length c.tail.inside.spans.items = search rules in
    let r = c.requires.room in
    let room = ap (λ (x : ChainSeen). x.room) c.self.view_is in
    c.append.ensures.succeeds (omega arith)

pub invariant_of-self : goal.invariant_of-self
invariant_of-self c =
    let xs = c.self.inside.spans.items in
    let ys = c.tail.inside.spans.items in
    let ws = c.append.new.self.items in
    let appended : ws ≡ xs ++ ys = search rules in
    let whole = ap (λ (l : List (List Part)). all_parts l) appended ∙ all_parts-append xs ys in
    let u : length (joined (all_parts xs)) ≡ length (joined c.args.self.now.parts) = ap (λ (x : ChainSeen). length (joined x.parts)) c.self.view_is in
    let v : length (joined (all_parts ys)) ≡ length (joined c.args.tail.parts) = ap (λ (x : ChainSeen). length (joined x.parts)) c.tail.view_is in
    let short = c.requires.short in (
      put_behind (arc_value c.self.inside.counts) (arc_value c.tail.inside.counts) (all_parts xs) (all_parts ys) (all_parts ws) whole
          (ap (λ (x : ChainSeen). x.table) c.tail.view_is ∙ (c.requires.table ∙ sym (ap (λ (x : ChainSeen). x.table) c.self.view_is)))
          c.self.invariant.0 c.tail.invariant.0 (omega arith),
      All-same (λ (l : List Part). 0 < length l) ws (xs ++ ys) appended (All-append (λ (l : List Part). 0 < length l) xs ys c.self.invariant.1 c.tail.invariant.1),
    )

pub returns-clause-room : goal.returns-clause-room
returns-clause-room c =
    let appended : c.append.new.self.items ≡ c.self.inside.spans.items ++ c.tail.inside.spans.items = search rules in
    let e = ap (λ (l : List (List Part)). length l) appended in
    let n = length-append c.self.inside.spans.items c.tail.inside.spans.items in
    let few = few_spans c.tail.inside.spans.items c.tail.invariant.1 in
    let v : length (all_parts c.tail.inside.spans.items) ≡ length c.args.tail.parts = ap (λ (x : ChainSeen). length x.parts) c.tail.view_is in
    let later = c.append.ensures.capacity in
    let room = ap (λ (x : ChainSeen). x.room) c.self.view_is in
    omega arith
