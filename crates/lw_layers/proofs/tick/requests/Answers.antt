use Rattle.std.proofs.Common.{[], sym, subst, take}
use Rattle.lw_link.specs.Plans.{Plans}
use Rattle.lw_link.specs.Way.{Way}
use Rattle.lw_layers.specs.Ticks.{asks_all}
use Rattle.lw_layers.proofs.TickLaws.{asks_next}
use Rattle.lw_layers.proofs.tick.requests.Goals as goal

pub loop-ip-preserved : goal.loop-ip-preserved
loop-ip-preserved c = λ k net id.
    let w : Way = record { link = k; out = [] } in
    subst (λ (m : Way). Plans c.ask.new.self k m) (sym (asks_next w c.args.asked.now c.loop-ip.ip-index (record { 0 = 0 }) c.loop-ip-test.true))
    (c.in_ok-ask.ensures.exact k (asks_all w (take c.loop-ip.ip-index c.args.asked.now)) net (c.loop-ip.invariant k net id))
