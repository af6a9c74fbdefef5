use Rattle.std.proofs.Common.{rules, ◌≡◌, ◌+◌, ◌++◌, [], ◌∷◌, All, true, length}
use Rattle.hist_lock.specs.Callers.{IsCallerOf}
use Rattle.tcpip_rows.specs.Workers.{IsDone}
use Rattle.tcpip_rows.proofs.Lining.{one_more_back, head_stays}
use Rattle.tcpip_rows.proofs.shop.close.Goals as goal

pub loop-worker-preserved : goal.loop-worker-preserved
loop-worker-preserved c = let l = c.loop-worker in let i = l.invariant in let w = c.in-Some.worker in
    let here : l.worker-iterator.rest.items ≡ w ∷ c.next.new.self.rest.items = search rules in
    let there : c.push-in-loop-worker.new.self.items ≡ l.callers.items ++ c.put_back.result ∷ [] = search rules in
    let own : IsCallerOf c.args.shop.lock c.put_back.result = search rules in
    let both = one_more_back c.args.shop.tcpip w c.next.new.self.rest.items l.worker-iterator.rest.items l.callers.items c.push-in-loop-worker.new.self.items c.args.shop.lock c.put_back.result here there own i.2 i.3 in
    (search rules, search rules, both.1, both.0, head_stays c.args.first c.put_back.result l.callers.items c.push-in-loop-worker.new.self.items i.4 there, search rules)
