use Rattle.std.proofs.Common.{◌≡◌, [], take}
use Rattle.lw_link.specs.Plans.{Plans}
use Rattle.lw_link.specs.Way.{Link}
use Rattle.lw_layers.specs.Ticks.{asks_all}
use Rattle.lw_layers.proofs.tick.requests.Given as goal

abbrev pub invariant-loop-ip : goal.invariant-loop-ip
invariant-loop-ip l = (k : Link) → k.net ≡ l.netif → k.next_id ≡ l.next_id → Plans l.plan k (asks_all (record { link = k; out = [] }) (take l.ip-index l.asked))
