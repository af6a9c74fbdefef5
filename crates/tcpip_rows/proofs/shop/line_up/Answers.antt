use Rattle.std.proofs.Common.{rules, ◌≡◌, ◌+◌, ◌++◌, [], ◌∷◌, All, false, length}
use Rattle.hist_lock.specs.Callers.{IsCallerOf}
use Rattle.tcpip_rows.specs.declared.worker.Worker.TheVariants.{Asks}
use Rattle.tcpip_rows.specs.Workers.{IsReady}
use Rattle.tcpip_rows.proofs.Lining.{IsOpen, one_more_asks}
use Rattle.tcpip_rows.proofs.shop.line_up.Goals as goal

pub loop-line-preserved : goal.loop-line-preserved
loop-line-preserved c = let l = c.loop-line in let i = l.invariant in let line = c.in-Some.line in
    let here : l.line-iterator.rest.items ≡ line ∷ c.next.new.self.rest.items = search rules in
    let there : c.push.new.self.items ≡ l.workers.items ++ Asks line c.split-again.result.1 ∷ [] = search rules in
    let own : IsCallerOf c.args.shop.now.tcpip.key.lock.value c.split-again.result.1 = search rules in
    let both = one_more_asks c.args.shop.now.tcpip line c.next.new.self.rest.items l.line-iterator.rest.items l.workers.items c.push.new.self.items c.split-again.result.1 here there own i.4 i.3 in
    (search rules, search rules, search rules, both.0, both.1, search rules)
