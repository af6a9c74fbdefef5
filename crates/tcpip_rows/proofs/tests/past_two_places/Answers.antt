use Rattle.std.proofs.Common.{rules, ◌≡◌, ◌++◌, [], ◌∷◌, List, All, sym, subst}
use Rattle.std.proofs.lemmas.List.Elements.{All-pop, All-push}
use Rattle.tcpip_rows.specs.declared.worker.Worker.{Worker}
use Rattle.tcpip_rows.specs.Workers.{IsReady}
use Rattle.tcpip_rows.proofs.tests.past_two_places.Goals as goal

pub work-clerk-requires-clause-workers : goal.work-clerk-requires-clause-workers
work-clerk-requires-clause-workers g c κs within = let t = c.in_ok-shop.shop.tcpip in
    let there : c.push.new.self.items ≡ c.pop.new.self.items ++ c.input_three-worker.result.0 ∷ [] = search rules in
    let all : All (IsReady t) c.in_ok-shop.workers.items = c.in_ok-shop.ensures.workers in
    let before = (All-pop (IsReady t) c.in_ok-shop.workers.items c.pop.new.self.items c.pop.result c.pop.ensures.items all).0 in
    subst (λ (xs : List Worker). All (IsReady t) xs) (sym there) (All-push (IsReady t) c.pop.new.self.items c.input_three-worker.result.0 before c.input_three-worker.ensures)
