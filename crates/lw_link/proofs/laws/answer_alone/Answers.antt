use Rattle.std.proofs.Common.{◌∙◌, [], ap, refl}
use Rattle.lw_link.specs.Way.{Link, Way}
use Rattle.lw_link.proofs.WayLaws.{answer_out, is_for_us}
use Rattle.lw_link.proofs.laws.answer_alone.Goals as goal

pub returns : goal.returns
returns c =
    let own = c.args.netif.now in
    let request = c.args.request.now in
    let l : Link = record { net = own; neighbours = []; next_id = 0 } in
    let m : Way = record { link = l; out = [] } in
    let plans = c.in_ok-answer.ensures.exact l m refl (c.new-plan.ensures.exact l refl) in
    record { answered = ap (λ (w : Way). w.out) plans.made ∙ ap (λ (w : Way). w.out) (answer_out m request (is_for_us own.ip request c.requires.asks c.requires.own c.requires.other)) }
