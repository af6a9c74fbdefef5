use Rattle.std.proofs.Common.{rules, ◌≡◌, sym, subst, List, [], ◌∷◌}
use Rattle.hist_lock.specs.declared.table.Held.{Held}
use Rattle.hist_lock.specs.Views.{newcomer}
use Rattle.hist_lock.specs.Rule.{padding, Ruled}
use Rattle.atomic_table.specs.Table.{opening}
use Rattle.hist_lock.proofs.Ends.{starts}
use Rattle.hist_lock.proofs.lock.HistLock.new.Goals as goal

pub new-requires-2 : goal.new-requires-2
new-requires-2 g c = let k : Held g.row.O.Denot g.row.O-Entry.Denot = record { object = c.args.object; log = c.new.result } in
    let one : c.push.new.self.items ≡ k ∷ [] = search rules in
    subst (λ (xs : List (Held g.row.O.Denot g.row.O-Entry.Denot)). Ruled g.O.Serial.state g.O.Serial.tag g.O.Serial.by g.O.Serial.steps c.of-start.result.value (opening (0 ∷ padding) xs (newcomer c.of-start.result.value))) (sym one)
    (starts g.O.Serial.state g.O.Serial.tag g.O.Serial.by g.O.Serial.steps c.of-start.result.value k (sym c.of-start.ensures) c.new.ensures.items)
