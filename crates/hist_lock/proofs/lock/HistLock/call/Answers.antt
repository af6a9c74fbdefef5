use Rattle.std.proofs.Common.{rules, ◌≡◌, ℕ, Some, ap, sym, ◌∙◌, subst}
use Rattle.hist_lock.specs.declared.table.Held.{Held}
use Rattle.hist_lock.specs.declared.table.Part.{Part}
use Rattle.hist_lock.specs.Histories.{Legal, made_by}
use Rattle.hist_lock.specs.Views.{part_of}
use Rattle.hist_lock.specs.Plays.{IsInside}
use Rattle.hist_lock.specs.Callers.{Known, Begun, known}
use Rattle.hist_lock.proofs.Turns.{extends, fails}
use Rattle.hist_lock.proofs.Rests.{Sat, rests_at, own_part, known_is, same_caller, rests_again, of_known}
use Rattle.hist_lock.proofs.lock.HistLock.call.Goals as goal

pub take-requires : goal.take-requires
take-requires g c =
    let rest = rests_at c.who.inside.seat c.who.inside.number c.who.inside.splits c.args.who.now c.args.self.now (record { lock = c.self.inside.table.shared.table_id; start = c.self.inside.table.shared.key.value }) c.who.invariant c.who.view_is c.requires.own.1 c.self.view_is in
    record { board = search rules; idle = own_part _ _ _ _ _ rest }

pub step_and_give-requires : goal.step_and_give-requires
step_and_give-requires g c =
    let rest = rests_at c.who.inside.seat c.who.inside.number c.who.inside.splits c.args.who.now c.args.self.now (record { lock = c.self.inside.table.shared.table_id; start = c.self.inside.table.shared.key.value }) c.who.invariant c.who.view_is c.requires.own.1 c.self.view_is in
    let taken = subst (λ (p : Part g.row.O-Entry.Denot). (k : Held g.row.O.Denot g.row.O-Entry.Denot) × IsInside g.O.Serial.state g.O.Serial.tag g.O.Serial.by g.O.Serial.steps c.self.inside.table.shared.key.value p k c.take.new.seat.me) (ap (λ (m : Sat g.row.O.Denot g.row.O-Entry.Denot). part_of m.0) rest) c.take.ensures.taken in
    let at = ap (λ (m : Sat g.row.O.Denot g.row.O-Entry.Denot). part_of m.0) taken.1.seat in
    record {
      board = search rules;
      inside = (_, taken.0, taken.1);
      number = ap (λ (p : Part g.row.O-Entry.Denot). p.number) at ∙ sym (ap (λ (x : Known g.row.O.Denot g.row.O-Entry.Denot). x.number) c.who.view_is);
      fits = subst (λ (b : Begun g.row.O.Denot). g.O.Serial.fits (g.O.Serial.tag b.start) c.args.ev) (sym c.self.view_is) c.requires.fits;
    }

pub invariant_of-who : goal.invariant_of-who
invariant_of-who g c =
    let rest = rests_at c.who.inside.seat c.who.inside.number c.who.inside.splits c.args.who.now c.args.self.now (record { lock = c.self.inside.table.shared.table_id; start = c.self.inside.table.shared.key.value }) c.who.invariant c.who.view_is c.requires.own.1 c.self.view_is in
    let taken = subst (λ (p : Part g.row.O-Entry.Denot). (k : Held g.row.O.Denot g.row.O-Entry.Denot) × IsInside g.O.Serial.state g.O.Serial.tag g.O.Serial.by g.O.Serial.steps c.self.inside.table.shared.key.value p k c.take.new.seat.me) (ap (λ (m : Sat g.row.O.Denot g.row.O-Entry.Denot). part_of m.0) rest) c.take.ensures.taken in
    let at = ap (λ (m : Sat g.row.O.Denot g.row.O-Entry.Denot). part_of m.0) taken.1.seat in
    let now = c.step_and_give.ensures.sees.2 in
    rests_again c.who.inside.seat c.step_and_give.new.seat c.who.inside.number c.who.inside.splits c.args.who.now c.args.self.now (record { lock = c.self.inside.table.shared.table_id; start = c.self.inside.table.shared.key.value }) _ c.who.view_is c.requires.own.1 c.self.view_is (c.step_and_give.ensures.board.0 ∙ c.take.ensures.board.0) c.step_and_give.ensures.idle (ap (λ (p : Part g.row.O-Entry.Denot). p.number) now ∙ ap (λ (p : Part g.row.O-Entry.Denot). p.number) at) (ap (λ (p : Part g.row.O-Entry.Denot). p.splits) now ∙ ap (λ (p : Part g.row.O-Entry.Denot). p.splits) at)

pub returns-clause-same : goal.returns-clause-same
returns-clause-same g c = same_caller c.who.inside.seat c.step_and_give.new.seat c.who.inside.number c.who.inside.splits c.args.who.now c.args.self.now (record { lock = c.self.inside.table.shared.table_id; start = c.self.inside.table.shared.key.value }) _ c.who.view_is c.requires.own.1 c.self.view_is (c.step_and_give.ensures.board.0 ∙ c.take.ensures.board.0) c.step_and_give.ensures.idle

pub returns-clause-ok : goal.returns-clause-ok
returns-clause-ok g c =
    let rest = rests_at c.who.inside.seat c.who.inside.number c.who.inside.splits c.args.who.now c.args.self.now (record { lock = c.self.inside.table.shared.table_id; start = c.self.inside.table.shared.key.value }) c.who.invariant c.who.view_is c.requires.own.1 c.self.view_is in
    let taken = subst (λ (p : Part g.row.O-Entry.Denot). (k : Held g.row.O.Denot g.row.O-Entry.Denot) × IsInside g.O.Serial.state g.O.Serial.tag g.O.Serial.by g.O.Serial.steps c.self.inside.table.shared.key.value p k c.take.new.seat.me) (ap (λ (m : Sat g.row.O.Denot g.row.O-Entry.Denot). part_of m.0) rest) c.take.ensures.taken in
    let at = ap (λ (m : Sat g.row.O.Denot g.row.O-Entry.Denot). part_of m.0) taken.1.seat in
    let is = known_is c.step_and_give.new.seat (Some c.self.inside.table.shared.key.value) _ c.step_and_give.ensures.idle c.who.inside.number c.who.inside.splits in
    extends g.O.Serial.state g.O.Serial.tag g.O.Serial.by g.O.Serial.tells g.O.Serial.same g.O.Serial.steps c.self.inside.table.shared.key.value c.args.self.now.start (ap (λ (x : Begun g.row.O.Denot). x.start) c.self.view_is) c.args.ev c.args.who.now (known c.step_and_give.new.seat c.who.inside.number c.who.inside.splits) taken.0.log.items _ _ at taken.1.begins (ap (λ (x : Known g.row.O.Denot g.row.O-Entry.Denot). x.seen) is) (ap (λ (x : Known g.row.O.Denot g.row.O-Entry.Denot). x.mine) is) c.step_and_give.result c.step_and_give.ensures.ok

pub returns-clause-err : goal.returns-clause-err
returns-clause-err g c =
    let rest = rests_at c.who.inside.seat c.who.inside.number c.who.inside.splits c.args.who.now c.args.self.now (record { lock = c.self.inside.table.shared.table_id; start = c.self.inside.table.shared.key.value }) c.who.invariant c.who.view_is c.requires.own.1 c.self.view_is in
    let taken = subst (λ (p : Part g.row.O-Entry.Denot). (k : Held g.row.O.Denot g.row.O-Entry.Denot) × IsInside g.O.Serial.state g.O.Serial.tag g.O.Serial.by g.O.Serial.steps c.self.inside.table.shared.key.value p k c.take.new.seat.me) (ap (λ (m : Sat g.row.O.Denot g.row.O-Entry.Denot). part_of m.0) rest) c.take.ensures.taken in
    let at = ap (λ (m : Sat g.row.O.Denot g.row.O-Entry.Denot). part_of m.0) taken.1.seat in
    let is = known_is c.step_and_give.new.seat (Some c.self.inside.table.shared.key.value) _ c.step_and_give.ensures.idle c.who.inside.number c.who.inside.splits in
    fails g.O.Serial.state g.O.Serial.tag g.O.Serial.by g.O.Serial.tells g.O.Serial.same g.O.Serial.steps c.self.inside.table.shared.key.value c.args.self.now.start (ap (λ (x : Begun g.row.O.Denot). x.start) c.self.view_is) c.args.ev c.args.who.now (known c.step_and_give.new.seat c.who.inside.number c.who.inside.splits) taken.0.log.items _ _ at taken.1.begins (ap (λ (x : Known g.row.O.Denot g.row.O-Entry.Denot). x.seen) is) (ap (λ (x : Known g.row.O.Denot g.row.O-Entry.Denot). x.mine) is) c.step_and_give.result c.step_and_give.ensures.err

pub returns-clause-history : goal.returns-clause-history
returns-clause-history g c =
    let rest = rests_at c.who.inside.seat c.who.inside.number c.who.inside.splits c.args.who.now c.args.self.now (record { lock = c.self.inside.table.shared.table_id; start = c.self.inside.table.shared.key.value }) c.who.invariant c.who.view_is c.requires.own.1 c.self.view_is in
    let taken = subst (λ (p : Part g.row.O-Entry.Denot). (k : Held g.row.O.Denot g.row.O-Entry.Denot) × IsInside g.O.Serial.state g.O.Serial.tag g.O.Serial.by g.O.Serial.steps c.self.inside.table.shared.key.value p k c.take.new.seat.me) (ap (λ (m : Sat g.row.O.Denot g.row.O-Entry.Denot). part_of m.0) rest) c.take.ensures.taken in
    let at = ap (λ (m : Sat g.row.O.Denot g.row.O-Entry.Denot). part_of m.0) taken.1.seat in
    let now = c.step_and_give.ensures.sees in
    let number = ap (λ (p : Part g.row.O-Entry.Denot). p.number) at ∙ sym (ap (λ (x : Known g.row.O.Denot g.row.O-Entry.Denot). x.number) c.who.view_is) in
    of_known c.who.inside.seat c.step_and_give.new.seat c.who.inside.number c.who.inside.splits c.args.who.now c.args.self.now (record { lock = c.self.inside.table.shared.table_id; start = c.self.inside.table.shared.key.value }) _ c.who.view_is c.requires.own.1 c.self.view_is (c.step_and_give.ensures.board.0 ∙ c.take.ensures.board.0) c.step_and_give.ensures.idle
    (λ seen mine. ((t : g.O.Serial.State) × Legal g.O.Serial.steps (g.O.Serial.state c.args.self.now.start) seen t) × (made_by g.O.Serial.by c.who.inside.number seen ≡ mine))
    (subst (λ (p : Part g.row.O-Entry.Denot). ((t : g.O.Serial.State) × Legal g.O.Serial.steps (g.O.Serial.state c.args.self.now.start) p.seen t) × (made_by g.O.Serial.by c.who.inside.number p.seen ≡ p.mine)) (sym now.2) (
      subst (λ (b : Begun g.row.O.Denot). (t : g.O.Serial.State) × Legal g.O.Serial.steps (g.O.Serial.state b.start) now.0 t) c.self.view_is (now.1, now.3),
      ap (λ (n : ℕ). made_by g.O.Serial.by n now.0) (sym number),
    ))
