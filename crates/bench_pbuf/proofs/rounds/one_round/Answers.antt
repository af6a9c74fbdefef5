use Rattle.std.proofs.Common.{ap, sym, ◌∙◌, length, length-drop, arith}
use Rattle.lw_payload.specs.Views.{Pools}
use Rattle.bench_pbuf.proofs.rounds.one_round.Goals as goal

pub spend-others-requires : goal.spend-others-requires
spend-others-requires g c =
    let made = c.in-Ok.ensures.made in
    let shared = c.in-Ok-share.ensures.shared in
    let cut = c.cut_front.ensures in
    let spent = c.spend-some.ensures.spent in
    let home = spent.pools ∙ (cut.pools ∙ (shared.pools ∙ c.make.ensures.keeps.pools)) in
    record {
      short =
          let rest = ap length cut.octets in
          let all = ap length (shared.octets ∙ made.octets) in
          let less = length-drop 40 (g.P.Payload.seen c.share.new.self).octets in
          let few = c.requires.short in
          omega arith;
      family = cut.family ∙ (shared.family ∙ (made.family ∙ sym (ap (λ (x : Pools). x.family) home)));
      listed = λ s.
          let a = made.rows s in
          let b = shared.rows s in
          let r = cut.rows s in
          let f = cut.fewer s in
          let z = spent.rows s in
          omega arith;
    }
