use Rattle.std.proofs.Common.{rules, ◌≡◌, ◌≤◌, ◌∙◌, ℕ, ◌-◌, List, length, length-take, ap, sym, subst, refl, arith}
use Rattle.std.specs.Arc.{arc_value}
use Rattle.std.specs.List.{refill}
use Rattle.pbuf_spans.specs.Parts.{Part, joined, rows_in, all_own, IsChain}
use Rattle.lw_pbuf.specs.Chains.{ChainSeen, all_parts, NoneEmpty}
use Rattle.pbuf_spans.specs.Cuts.{with_front, IsCutTo, IsRewritten}
use Rattle.lw_pbuf.proofs.Joined.{few_parts}
use Rattle.lw_pbuf.proofs.Rewriting.{rewritten_back, rewritten_chain, rewritten_cut, rewritten_rows, rewritten_some}
use Rattle.lw_pbuf.proofs.chain.Chain.refill.Goals as goal

pub write_over-requires : goal.write_over-requires
write_over-requires c =
    let v : c.as_mut_slice.result.now ≡ c.self.inside.spans.items = c.as_mut_slice.ensures.value in
    let all = c.args.self.now.parts in
    let o = ap (λ (l : List ℕ). length l) c.cut_back.ensures.octets in
    let t = length-take (length (joined all) - (c.len.result - length c.args.octets.now)) (joined all) in
    let n : c.len.result ≡ length (joined all) = c.len.ensures in
    let w = c.requires.within in
    let u : length (joined (all_parts c.self.inside.spans.items)) ≡ length (joined c.cut_back.new.self.parts) = ap (λ (x : ChainSeen). length (joined x.parts)) c.self.view_is in
    let e = ap (λ (l : List (List Part)). length (joined (all_parts l))) v in
    record {
      own = ap (λ (l : List (List Part)). all_own (all_parts l)) v ∙ (ap (λ (x : ChainSeen). all_own x.parts) c.self.view_is ∙ c.cut_back.ensures.cut.own c.requires.own);
      exact = omega arith;
    }

pub invariant_of-self : goal.invariant_of-self
invariant_of-self c =
    let b = rewritten_back c.self.inside.spans.items c.as_mut_slice.result.now c.write_over.new.spans c.as_mut_slice.ensures.value c.write_over.auto.spans c.write_over.ensures.same in (
      subst (λ (l : List (List Part)). IsChain (arc_value c.self.inside.counts) (all_parts l)) (sym b.0) (rewritten_chain (arc_value c.self.inside.counts) (all_parts c.self.inside.spans.items) (all_parts c.write_over.new.spans) b.1 c.self.invariant.0),
      subst (λ (l : List (List Part)). NoneEmpty l) (sym b.0) (c.write_over.ensures.full (subst (λ (l : List (List Part)). NoneEmpty l) (sym c.as_mut_slice.ensures.value) c.self.invariant.1)),
    )

pub returns-clause-octets : goal.returns-clause-octets
returns-clause-octets c =
    let b = rewritten_back c.self.inside.spans.items c.as_mut_slice.result.now c.write_over.new.spans c.as_mut_slice.ensures.value c.write_over.auto.spans c.write_over.ensures.same in
    ap (λ (l : List (List Part)). joined (all_parts l)) b.0 ∙ c.write_over.ensures.octets

pub returns-clause-left : goal.returns-clause-left
returns-clause-left c =
    let b = rewritten_back c.self.inside.spans.items c.as_mut_slice.result.now c.write_over.new.spans c.as_mut_slice.ensures.value c.write_over.auto.spans c.write_over.ensures.same in
    let all = c.args.self.now.parts in
    let n : c.len.result ≡ length (joined all) = c.len.ensures in
    let w = c.requires.within in
    let count : length (joined all) - (c.len.result - length c.args.octets.now) ≡ length c.args.octets.now = omega arith in
    let before : all_parts c.self.inside.spans.items ≡ with_front (length c.args.octets.now) all = ap (λ (x : ChainSeen). x.parts) c.self.view_is ∙ (c.cut_back.ensures.left ∙ ap (λ (k : ℕ). with_front k all) count) in
    subst (λ (l : List (List Part)). IsRewritten (with_front (length c.args.octets.now) all) (all_parts l)) (sym b.0)
    (subst (λ (ps : List Part). IsRewritten ps (all_parts c.write_over.new.spans)) before b.1)

pub returns-clause-cut : goal.returns-clause-cut
returns-clause-cut c =
    let b = rewritten_back c.self.inside.spans.items c.as_mut_slice.result.now c.write_over.new.spans c.as_mut_slice.ensures.value c.write_over.auto.spans c.write_over.ensures.same in
    subst (λ (l : List (List Part)). IsCutTo c.args.seat.now c.cut_back.new.seat c.args.self.now.parts (all_parts l)) (sym b.0)
    (rewritten_cut c.args.seat.now c.cut_back.new.seat c.args.self.now.parts (all_parts c.self.inside.spans.items) (all_parts c.write_over.new.spans)
    (subst (λ (x : ChainSeen). IsCutTo c.args.seat.now c.cut_back.new.seat c.args.self.now.parts x.parts) (sym c.self.view_is) c.cut_back.ensures.cut) b.1)

pub returns-clause-room : goal.returns-clause-room
returns-clause-room c =
    let b = rewritten_back c.self.inside.spans.items c.as_mut_slice.result.now c.write_over.new.spans c.as_mut_slice.ensures.value c.write_over.auto.spans c.write_over.ensures.same in
    let e = ap (λ (l : List (List Part)). length l) b.0 in
    let n = c.write_over.auto.spans in
    let v = ap (λ (l : List (List Part)). length l) c.as_mut_slice.ensures.value in
    let r = ap (λ (x : ChainSeen). x.room) c.self.view_is in
    let more = c.cut_back.ensures.room in
    omega arith

pub returns-clause-of_seat : goal.returns-clause-of_seat
returns-clause-of_seat c =
    let b = rewritten_back c.self.inside.spans.items c.as_mut_slice.result.now c.write_over.new.spans c.as_mut_slice.ensures.value c.write_over.auto.spans c.write_over.ensures.same in
    record {
      table = ap (λ (x : ChainSeen). x.table) c.self.view_is ∙ c.cut_back.ensures.of_seat.table;
      listed = λ s.
          let a = c.cut_back.ensures.of_seat.listed s in
          let v : rows_in (all_parts c.self.inside.spans.items) s ≡ rows_in c.cut_back.new.self.parts s = ap (λ (x : ChainSeen). rows_in x.parts s) c.self.view_is in
          let d = rewritten_rows (all_parts c.self.inside.spans.items) (all_parts c.write_over.new.spans) b.1 s in
          let e = ap (λ (l : List (List Part)). rows_in (all_parts l) s) b.0 in
          omega arith;
    }

pub returns-clause-few : goal.returns-clause-few
returns-clause-few c =
    let b = rewritten_back c.self.inside.spans.items c.as_mut_slice.result.now c.write_over.new.spans c.as_mut_slice.ensures.value c.write_over.auto.spans c.write_over.ensures.same in
    subst (λ (l : List (List Part)). length (all_parts l) ≤ length (joined (all_parts l))) (sym b.0)
    (few_parts (all_parts c.write_over.new.spans) (rewritten_some (all_parts c.self.inside.spans.items) (all_parts c.write_over.new.spans) b.1 c.self.invariant.0.some))
