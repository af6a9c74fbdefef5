use Rattle.std.proofs.Common.{ap, sym, ◌∙◌, subst, Some}
use Rattle.hist_lock.specs.Histories.{Legal}
use Rattle.hist_lock.specs.Callers.{Begun}
use Rattle.hist_lock.proofs.Rests.{Sat}
use Rattle.hist_lock.proofs.Closing.{some_callers, closed_is, all_seen, all_made, all_entries, all_numbered}
use Rattle.hist_lock.proofs.lock.HistLock.close.Goals as goal

pub gather-seat-requires : goal.gather-seat-requires
gather-seat-requires g c = record {
  board = c.self.invariant;
  some = some_callers c.args.callers.items c.requires.all;
  own = λ i d b. let o = c.requires.own i d b in (o.0 ∙ ap (λ (x : Begun g.row.O.Denot). x.lock) (sym c.self.view_is), o.1 ∙ ap (λ (x : Begun g.row.O.Denot). Some x.start) (sym c.self.view_is));
}

pub returns-clause-legal : goal.returns-clause-legal
returns-clause-legal g c = let done = closed_is g.O.Serial.state g.O.Serial.tag g.O.Serial.by g.O.Serial.steps c.self.inside.table.shared.key.value c.args.callers.items _ _ c.gather-seat.result.id c.gather-seat.result.me.0 c.take-object.result c.close_with-closed.ensures.values.2 (ap (λ (m : Sat g.row.O.Denot g.row.O-Entry.Denot). m.0) c.gather-seat.ensures.parts) c.requires.all c.take-object.ensures.value in
    subst (λ (x : Begun g.row.O.Denot). Legal g.O.Serial.steps (g.O.Serial.state x.start) c.take-object.result.log.items (g.O.Serial.state c.take-object.result.object)) c.self.view_is done.kept.0

pub returns-clause-tag : goal.returns-clause-tag
returns-clause-tag g c = let done = closed_is g.O.Serial.state g.O.Serial.tag g.O.Serial.by g.O.Serial.steps c.self.inside.table.shared.key.value c.args.callers.items _ _ c.gather-seat.result.id c.gather-seat.result.me.0 c.take-object.result c.close_with-closed.ensures.values.2 (ap (λ (m : Sat g.row.O.Denot g.row.O-Entry.Denot). m.0) c.gather-seat.ensures.parts) c.requires.all c.take-object.ensures.value in
    done.kept.1 ∙ ap (λ (x : Begun g.row.O.Denot). g.O.Serial.tag x.start) c.self.view_is

pub returns-clause-seen : goal.returns-clause-seen
returns-clause-seen g c = let done = closed_is g.O.Serial.state g.O.Serial.tag g.O.Serial.by g.O.Serial.steps c.self.inside.table.shared.key.value c.args.callers.items _ _ c.gather-seat.result.id c.gather-seat.result.me.0 c.take-object.result c.close_with-closed.ensures.values.2 (ap (λ (m : Sat g.row.O.Denot g.row.O-Entry.Denot). m.0) c.gather-seat.ensures.parts) c.requires.all c.take-object.ensures.value in
    all_seen g.O.Serial.state g.O.Serial.tag g.O.Serial.by g.O.Serial.steps c.self.inside.table.shared.key.value c.args.callers.items c.take-object.result done

pub returns-clause-made : goal.returns-clause-made
returns-clause-made g c = let done = closed_is g.O.Serial.state g.O.Serial.tag g.O.Serial.by g.O.Serial.steps c.self.inside.table.shared.key.value c.args.callers.items _ _ c.gather-seat.result.id c.gather-seat.result.me.0 c.take-object.result c.close_with-closed.ensures.values.2 (ap (λ (m : Sat g.row.O.Denot g.row.O-Entry.Denot). m.0) c.gather-seat.ensures.parts) c.requires.all c.take-object.ensures.value in
    all_made g.O.Serial.state g.O.Serial.tag g.O.Serial.by g.O.Serial.steps c.self.inside.table.shared.key.value c.args.callers.items c.take-object.result done

pub returns-clause-entries : goal.returns-clause-entries
returns-clause-entries g c = let done = closed_is g.O.Serial.state g.O.Serial.tag g.O.Serial.by g.O.Serial.steps c.self.inside.table.shared.key.value c.args.callers.items _ _ c.gather-seat.result.id c.gather-seat.result.me.0 c.take-object.result c.close_with-closed.ensures.values.2 (ap (λ (m : Sat g.row.O.Denot g.row.O-Entry.Denot). m.0) c.gather-seat.ensures.parts) c.requires.all c.take-object.ensures.value in
    all_entries g.O.Serial.state g.O.Serial.tag g.O.Serial.by g.O.Serial.steps c.self.inside.table.shared.key.value c.args.callers.items c.take-object.result done

pub returns-clause-numbers : goal.returns-clause-numbers
returns-clause-numbers g c = let done = closed_is g.O.Serial.state g.O.Serial.tag g.O.Serial.by g.O.Serial.steps c.self.inside.table.shared.key.value c.args.callers.items _ _ c.gather-seat.result.id c.gather-seat.result.me.0 c.take-object.result c.close_with-closed.ensures.values.2 (ap (λ (m : Sat g.row.O.Denot g.row.O-Entry.Denot). m.0) c.gather-seat.ensures.parts) c.requires.all c.take-object.ensures.value in
    all_numbered g.O.Serial.state g.O.Serial.tag g.O.Serial.by g.O.Serial.steps c.self.inside.table.shared.key.value c.args.callers.items c.take-object.result done
