use Rattle.std.proofs.Common.{rules, refl, ◌≡◌, ◌/◌, ap, sym, ◌∙◌, subst, length}
use mathlib.Core.List.{IsPrefix}
use Rattle.hist_lock.specs.Histories.{Legal, made_by}
use Rattle.hist_lock.specs.Callers.{Begun, Known}
use Rattle.hist_lock.proofs.Steps.{counts_at}
use Rattle.hist_lock.proofs.Rests.{rests_at, counted_is, same_caller, rests_again, of_known}
use Rattle.hist_lock.proofs.lock.HistLock.front.Goals as goal

pub load-requires : goal.load-requires
load-requires g c = let rest = rests_at c.who.inside.seat c.who.inside.number c.who.inside.splits c.args.who.now c.args.self.now (record { lock = c.self.inside.table.shared.table_id; start = c.self.inside.table.shared.key.value }) c.who.invariant c.who.view_is c.requires.own.1 c.self.view_is in
    (search rules, search rules, counts_at g.O.Serial.state g.O.Serial.tag g.O.Serial.by g.O.Serial.steps _ _ _ _ _ rest)

pub invariant_of-who : goal.invariant_of-who
invariant_of-who g c = let rest = rests_at c.who.inside.seat c.who.inside.number c.who.inside.splits c.args.who.now c.args.self.now (record { lock = c.self.inside.table.shared.table_id; start = c.self.inside.table.shared.key.value }) c.who.invariant c.who.view_is c.requires.own.1 c.self.view_is in
    let did = counted_is g.O.Serial.state g.O.Serial.by g.O.Serial.steps _ c.load.result _ _ c.load.new.seat.me rest c.load.ensures.2 in
    rests_again c.who.inside.seat c.load.new.seat c.who.inside.number c.who.inside.splits c.args.who.now c.args.self.now (record { lock = c.self.inside.table.shared.table_id; start = c.self.inside.table.shared.key.value }) _ c.who.view_is c.requires.own.1 c.self.view_is c.load.ensures.0 did.1 refl refl

pub returns-clause-same : goal.returns-clause-same
returns-clause-same g c = let rest = rests_at c.who.inside.seat c.who.inside.number c.who.inside.splits c.args.who.now c.args.self.now (record { lock = c.self.inside.table.shared.table_id; start = c.self.inside.table.shared.key.value }) c.who.invariant c.who.view_is c.requires.own.1 c.self.view_is in
    let did = counted_is g.O.Serial.state g.O.Serial.by g.O.Serial.steps _ c.load.result _ _ c.load.new.seat.me rest c.load.ensures.2 in
    (same_caller c.who.inside.seat c.load.new.seat c.who.inside.number c.who.inside.splits c.args.who.now c.args.self.now (record { lock = c.self.inside.table.shared.table_id; start = c.self.inside.table.shared.key.value }) _ c.who.view_is c.requires.own.1 c.self.view_is c.load.ensures.0 did.1, of_known c.who.inside.seat c.load.new.seat c.who.inside.number c.who.inside.splits c.args.who.now c.args.self.now (record { lock = c.self.inside.table.shared.table_id; start = c.self.inside.table.shared.key.value }) _ c.who.view_is c.requires.own.1 c.self.view_is c.load.ensures.0 did.1 (λ seen mine. mine ≡ c.args.who.now.mine) refl)

pub returns-clause-seen : goal.returns-clause-seen
returns-clause-seen g c = let rest = rests_at c.who.inside.seat c.who.inside.number c.who.inside.splits c.args.who.now c.args.self.now (record { lock = c.self.inside.table.shared.table_id; start = c.self.inside.table.shared.key.value }) c.who.invariant c.who.view_is c.requires.own.1 c.self.view_is in
    let did = counted_is g.O.Serial.state g.O.Serial.by g.O.Serial.steps _ c.load.result _ _ c.load.new.seat.me rest c.load.ensures.2 in
    of_known c.who.inside.seat c.load.new.seat c.who.inside.number c.who.inside.splits c.args.who.now c.args.self.now (record { lock = c.self.inside.table.shared.table_id; start = c.self.inside.table.shared.key.value }) _ c.who.view_is c.requires.own.1 c.self.view_is c.load.ensures.0 did.1 (λ seen mine. (c.load.result / 2 ≡ length seen) × IsPrefix c.args.who.now.seen seen) (did.2, did.3.begins)

pub returns-clause-history : goal.returns-clause-history
returns-clause-history g c = let rest = rests_at c.who.inside.seat c.who.inside.number c.who.inside.splits c.args.who.now c.args.self.now (record { lock = c.self.inside.table.shared.table_id; start = c.self.inside.table.shared.key.value }) c.who.invariant c.who.view_is c.requires.own.1 c.self.view_is in
    let did = counted_is g.O.Serial.state g.O.Serial.by g.O.Serial.steps _ c.load.result _ _ c.load.new.seat.me rest c.load.ensures.2 in
    of_known c.who.inside.seat c.load.new.seat c.who.inside.number c.who.inside.splits c.args.who.now c.args.self.now (record { lock = c.self.inside.table.shared.table_id; start = c.self.inside.table.shared.key.value }) _ c.who.view_is c.requires.own.1 c.self.view_is c.load.ensures.0 did.1
    (λ seen mine. ((t : g.O.Serial.State) × Legal g.O.Serial.steps (g.O.Serial.state c.args.self.now.start) seen t) × (made_by g.O.Serial.by c.who.inside.number seen ≡ mine)) (
      subst (λ (b : Begun g.row.O.Denot). (t : g.O.Serial.State) × Legal g.O.Serial.steps (g.O.Serial.state b.start) did.0 t) c.self.view_is did.3.legal,
      ap (λ (x : Known g.row.O.Denot g.row.O-Entry.Denot). made_by g.O.Serial.by x.number did.0) c.who.view_is ∙ sym did.3.made,
    )
