use Rattle.std.proofs.Common.{rules, ◌≡◌, ◌<◌, ◌∷◌, [], List, length, take, drop, ap, sym, ◌∙◌, subst, arith, length-take}
use Rattle.std.specs.Arc.{arc_value}
use Rattle.atomic_table.specs.Seated.{TableId}
use Rattle.pbuf_spans.specs.Parts.{Part, IsChain}
use Rattle.lw_pbuf.specs.Chains.{ChainSeen, all_parts, NoneEmpty}
use Rattle.lw_pbuf.proofs.Parting.{chain_rest, chain_one, one_chain}
use Rattle.lw_pbuf.proofs.chain.Chain.dechain.Goals as goal

pub invariant_of-result : goal.invariant_of-result
invariant_of-result c =
    let same : arc_value c.in_ok-counts.counts ≡ arc_value c.self.inside.counts = search rules in
    let left : c.replace-spans.result.items ≡ c.take_first.new.spans.items = search rules in
    let rest : all_parts c.take_first.new.spans.items ≡ drop 1 (all_parts c.self.inside.spans.items) = search rules in (
      subst (λ (t : TableId). IsChain t (all_parts c.replace-spans.result.items)) (sym same)
          (chain_rest (arc_value c.self.inside.counts) (all_parts c.self.inside.spans.items) (all_parts c.replace-spans.result.items) (ap (λ (l : List (List Part)). all_parts l) left ∙ rest) c.self.invariant.0),
      subst (λ (l : List (List Part)). NoneEmpty l) (sym left) c.take_first.ensures.full,
    )

pub invariant_of-self-2 : goal.invariant_of-self-2
invariant_of-self-2 c =
    let all = all_parts c.self.inside.spans.items in
    let one : c.replace-spans.new.dest.items ≡ c.in_ok-first.first ∷ [] = search rules in
    let taken : c.in_ok-first.first ≡ take 1 (all_parts c.self.inside.spans.items) = search rules in
    let count : length all ≡ length c.args.self.now.parts = ap (λ (x : ChainSeen). length x.parts) c.self.view_is in
    let some : 0 < length c.in_ok-first.first = (
    let n = c.clen.ensures.exact in
    let many = c.if-clen-le1.false in
    let e = ap (λ (l : List Part). length l) taken in
    let k = length-take 1 all in
    omega arith
    ) in
    one_chain (arc_value c.self.inside.counts) c.in_ok-first.first c.replace-spans.new.dest.items one some (chain_one (arc_value c.self.inside.counts) all c.in_ok-first.first taken c.self.invariant.0)
