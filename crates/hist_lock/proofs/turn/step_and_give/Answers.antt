use Rattle.std.proofs.Common.{rules, ◌≡◌, ℕ, ap, sym, ◌∙◌, subst}
use Rattle.hist_lock.specs.declared.table.Held.{Held}
use Rattle.hist_lock.specs.declared.table.Part.{Part}
use Rattle.hist_lock.specs.Histories.{made_by, GrowsBy}
use Rattle.hist_lock.specs.Views.{part_of, up_to}
use Rattle.hist_lock.specs.Plays.{IsInside}
use Rattle.hist_lock.proofs.Rests.{Sat, own_part}
use Rattle.hist_lock.proofs.Steps.{took, has, put, gives_at, gave_is}
use Rattle.hist_lock.proofs.Turns.{stepped, adds, leaves}
use Rattle.hist_lock.proofs.turn.step_and_give.Goals as goal

pub slot_mut-held-requires : goal.slot_mut-held-requires
slot_mut-held-requires g c = let inside = c.requires.inside in (c.requires.board.0, (inside.1, has g.O.Serial.state g.O.Serial.tag g.O.Serial.by g.O.Serial.steps c.args.steps.now.key.value _ _ _ inside.2.seat))

pub step-answer-requires : goal.step-answer-requires
step-answer-requires g c =
    let inside = c.requires.inside in
    let here = subst (λ (k : Held g.row.O.Denot g.row.O-Entry.Denot). IsInside g.O.Serial.state g.O.Serial.tag g.O.Serial.by g.O.Serial.steps c.args.steps.now.key.value inside.0 k c.args.seat.now.me) (took g.O.Serial.state g.O.Serial.tag g.O.Serial.by g.O.Serial.steps c.args.steps.now.key.value _ _ inside.1 c.slot_mut-held.result.now inside.2.seat c.slot_mut-held.ensures.value) inside.2 in
    record { fits = subst (λ (t : g.O.Serial.Tag). g.O.Serial.fits t c.args.ev) (sym here.kept.1) c.requires.fits; few = here.few }

pub store-requires : goal.store-requires
store-requires g c =
    let inside = c.requires.inside in
    let here = subst (λ (k : Held g.row.O.Denot g.row.O-Entry.Denot). IsInside g.O.Serial.state g.O.Serial.tag g.O.Serial.by g.O.Serial.steps c.args.steps.now.key.value inside.0 k c.args.seat.now.me) (took g.O.Serial.state g.O.Serial.tag g.O.Serial.by g.O.Serial.steps c.args.steps.now.key.value _ _ inside.1 c.slot_mut-held.result.now inside.2.seat c.slot_mut-held.ensures.value) inside.2 in
    let did = stepped g.O.Serial.state g.O.Serial.tag g.O.Serial.by g.O.Serial.tells g.O.Serial.same g.O.Serial.steps c.args.steps.now.key.value c.args.actor c.slot_mut-held.result.now c.step-answer.new.self c.args.ev here.kept c.step-answer.ensures.tag c.step-answer.result (c.step-answer.ensures.ok, c.step-answer.ensures.err) in
    let number = sym c.requires.number ∙ ap (λ (m : Sat g.row.O.Denot g.row.O-Entry.Denot). (part_of m.0).number) here.seat in (
      c.requires.board.0,
      search rules,
      gives_at g.O.Serial.state g.O.Serial.tag g.O.Serial.by g.O.Serial.steps c.args.steps.now.key.value _ _ _ _ c.step-answer.new.self _ (put g.O.Serial.state g.O.Serial.tag g.O.Serial.by g.O.Serial.steps c.args.steps.now.key.value _ _ _ c.step-answer.new.self here.seat) (search rules)
          (subst (λ (n : ℕ). GrowsBy g.O.Serial.by n c.slot_mut-held.result.now.log.items c.step-answer.new.self.log.items) number did.0) did.1,
    )

pub returns : goal.returns
returns g c =
    let inside = c.requires.inside in
    let here = subst (λ (k : Held g.row.O.Denot g.row.O-Entry.Denot). IsInside g.O.Serial.state g.O.Serial.tag g.O.Serial.by g.O.Serial.steps c.args.steps.now.key.value inside.0 k c.args.seat.now.me) (took g.O.Serial.state g.O.Serial.tag g.O.Serial.by g.O.Serial.steps c.args.steps.now.key.value _ _ inside.1 c.slot_mut-held.result.now inside.2.seat c.slot_mut-held.ensures.value) inside.2 in
    let did = stepped g.O.Serial.state g.O.Serial.tag g.O.Serial.by g.O.Serial.tells g.O.Serial.same g.O.Serial.steps c.args.steps.now.key.value c.args.actor c.slot_mut-held.result.now c.step-answer.new.self c.args.ev here.kept c.step-answer.ensures.tag c.step-answer.result (c.step-answer.ensures.ok, c.step-answer.ensures.err) in
    let at = ap (λ (m : Sat g.row.O.Denot g.row.O-Entry.Denot). part_of m.0) here.seat in
    let now = gave_is g.O.Serial.state g.O.Serial.tag g.O.Serial.by g.O.Serial.steps c.args.steps.now.key.value 0 _ c.step-answer.new.self _ _ (put g.O.Serial.state g.O.Serial.tag g.O.Serial.by g.O.Serial.steps c.args.steps.now.key.value _ _ _ c.step-answer.new.self here.seat) c.store.ensures.2 in
    let after = ap (λ (m : Sat g.row.O.Denot g.row.O-Entry.Denot). part_of m.0) now ∙ ap (λ (p : Part g.row.O-Entry.Denot). up_to g.O.Serial.by c.step-answer.new.self.log.items p) (sym at) in
    let seen = ap (λ (p : Part g.row.O-Entry.Denot). p.seen) at in
    let made = subst (λ (p : Part g.row.O-Entry.Denot). p.mine ≡ made_by g.O.Serial.by p.number c.slot_mut-held.result.now.log.items) (sym at) here.made in
    record {
      board = (c.store.ensures.0, c.store.ensures.1);
      idle = own_part _ _ _ _ _ now;
      ok = adds g.O.Serial.state g.O.Serial.tag g.O.Serial.by g.O.Serial.tells g.O.Serial.same g.O.Serial.steps c.args.steps.now.key.value c.args.actor c.slot_mut-held.result.now c.step-answer.new.self c.args.ev here.kept c.step-answer.ensures.tag _ _ (sym c.requires.number) seen made after c.step-answer.result (c.step-answer.ensures.ok, c.step-answer.ensures.err);
      err = leaves g.O.Serial.state g.O.Serial.tag g.O.Serial.by g.O.Serial.tells g.O.Serial.same g.O.Serial.steps c.args.steps.now.key.value c.args.actor c.slot_mut-held.result.now c.step-answer.new.self c.args.ev here.kept c.step-answer.ensures.tag _ _ (sym c.requires.number) seen made after c.step-answer.result (c.step-answer.ensures.ok, c.step-answer.ensures.err);
      sees = (c.step-answer.new.self.log.items, g.O.Serial.state c.step-answer.new.self.object, after, did.1.0);
    }
