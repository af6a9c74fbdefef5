use Rattle.std.proofs.Common.{rules, refl, ap, ◌∙◌}
use Rattle.hist_lock.proofs.Steps.{gathers_at}
use Rattle.hist_lock.proofs.Rests.{Sat}
use Rattle.hist_lock.proofs.Closing.{one_gathered, more_gathered, all_gathered, alone_is, last_own}
use Rattle.hist_lock.proofs.lock.gather.Goals as goal

pub loop-caller-init : goal.loop-caller-init
loop-caller-init g c = one_gathered c.args.steps.now.key.value c.args.steps.now.table_id c.args.callers.items c.args.callers.items c.pop.new.self.items c.in-Some.last c.pop.result c.requires.own c.pop.ensures.items c.in-Some.is c.into_seat-seat.result refl c.into_seat-seat.ensures.table c.into_seat-seat.ensures.resting

pub join_seat-requires : goal.join_seat-requires
join_seat-requires g c = (
  c.loop-caller.invariant.table,
  c.into_seat.ensures.table ∙ (last_own c.args.steps.now.key.value c.args.steps.now.table_id c.args.callers.items c.loop-caller.callers.items c.pop-in-loop-caller.new.self.items c.in-Some-pop.caller c.pop-in-loop-caller.result c.loop-caller.invariant.own c.pop-in-loop-caller.ensures.items c.in-Some-pop.is).0,
  search rules,
  search rules,
  gathers_at g.O.Serial.state g.O.Serial.tag g.O.Serial.by g.O.Serial.steps _ _ _ _ _ _ _ _ (ap (λ (m : Sat g.row.O.Denot g.row.O-Entry.Denot). m.0) c.loop-caller.invariant.seat) (ap (λ (m : Sat g.row.O.Denot g.row.O-Entry.Denot). m.0) (alone_is c.args.steps.now.key.value c.args.steps.now.table_id c.args.callers.items c.loop-caller.callers.items c.pop-in-loop-caller.new.self.items c.in-Some-pop.caller c.pop-in-loop-caller.result c.loop-caller.invariant.own c.pop-in-loop-caller.ensures.items c.in-Some-pop.is c.into_seat.result.me c.into_seat.ensures.resting)),
)

pub loop-caller-preserved : goal.loop-caller-preserved
loop-caller-preserved g c = more_gathered c.args.steps.now.key.value c.args.steps.now.table_id c.args.callers.items c.loop-caller.callers.items c.pop-in-loop-caller.new.self.items c.in-Some-pop.caller c.pop-in-loop-caller.result c.loop-caller.invariant.own c.pop-in-loop-caller.ensures.items c.in-Some-pop.is c.loop-caller.seat c.join_seat.new.seat c.into_seat.result.me.0 c.loop-caller.invariant (ap (λ (m : Sat g.row.O.Denot g.row.O-Entry.Denot). m.0) (alone_is c.args.steps.now.key.value c.args.steps.now.table_id c.args.callers.items c.loop-caller.callers.items c.pop-in-loop-caller.new.self.items c.in-Some-pop.caller c.pop-in-loop-caller.result c.loop-caller.invariant.own c.pop-in-loop-caller.ensures.items c.in-Some-pop.is c.into_seat.result.me c.into_seat.ensures.resting)) c.join_seat.ensures.0 c.join_seat.ensures.2

pub returns : goal.returns
returns g c = record { table = c.loop-caller.invariant.table; parts = all_gathered c.args.steps.now.key.value c.args.steps.now.table_id c.args.callers.items _ _ c.loop-caller.invariant (search rules) }
