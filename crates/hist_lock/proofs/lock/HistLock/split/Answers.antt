use Rattle.std.proofs.Common.{rules, refl, ◌+◌, [], ap, ◌∙◌}
use Rattle.hist_lock.specs.Views.{with_one_more, newest}
use Rattle.hist_lock.specs.Callers.{Known}
use Rattle.hist_lock.proofs.Steps.{makes_at}
use Rattle.hist_lock.proofs.Rests.{Sat, rests, rests_at, known_as, resting_as}
use Rattle.hist_lock.proofs.lock.HistLock.split.Goals as goal

pub split_seat-seat-requires : goal.split_seat-seat-requires
split_seat-seat-requires g c = let rest = rests_at c.who.inside.seat c.who.inside.number c.who.inside.splits c.args.who c.args.self.now (record { lock = c.self.inside.table.shared.table_id; start = c.self.inside.table.shared.key.value }) c.who.invariant c.who.view_is c.requires.own.1 c.self.view_is in
    (search rules, search rules, makes_at g.O.Serial.state g.O.Serial.tag g.O.Serial.by g.O.Serial.steps _ _ _ _ (ap (λ (m : Sat g.row.O.Denot g.row.O-Entry.Denot). m.0) rest) c.requires.first.0 c.requires.first.1)

pub invariant_of-who : goal.invariant_of-who
invariant_of-who g c = let rest = rests c.who.inside.seat c.who.inside.number c.who.inside.splits c.args.who c.who.invariant c.who.view_is in
    let now = c.split_seat-seat.ensures.2 ∙ ap (λ (m : Sat g.row.O.Denot g.row.O-Entry.Denot). let x : Sat g.row.O.Denot g.row.O-Entry.Denot = (with_one_more m.0, m.1) in x) rest in
    resting_as c.split_seat-seat.new.seat (record c.args.who { splits = c.args.who.splits + 1 }) c.who.inside.number (c.who.inside.splits + 1) now (ap (λ (x : Known g.row.O.Denot g.row.O-Entry.Denot). x.number) c.who.view_is) (ap (λ (x : Known g.row.O.Denot g.row.O-Entry.Denot). x.splits + 1) c.who.view_is)

pub invariant_of-result : goal.invariant_of-result
invariant_of-result g c = let rest = rests c.who.inside.seat c.who.inside.number c.who.inside.splits c.args.who c.who.invariant c.who.view_is in
    let now = c.split_seat-seat.ensures.4 ∙ ap (λ (m : Sat g.row.O.Denot g.row.O-Entry.Denot). let x : Sat g.row.O.Denot g.row.O-Entry.Denot = (newest m.0, []) in x) rest in
    resting_as c.split_seat-seat.result (record c.args.who { number = c.args.who.splits + 1; splits = 0; mine = [] }) (c.who.inside.splits + 1) 0 now (ap (λ (x : Known g.row.O.Denot g.row.O-Entry.Denot). x.splits + 1) c.who.view_is) refl

pub returns-clause-first : goal.returns-clause-first
returns-clause-first g c = let rest = rests c.who.inside.seat c.who.inside.number c.who.inside.splits c.args.who c.who.invariant c.who.view_is in
    let now = c.split_seat-seat.ensures.2 ∙ ap (λ (m : Sat g.row.O.Denot g.row.O-Entry.Denot). let x : Sat g.row.O.Denot g.row.O-Entry.Denot = (with_one_more m.0, m.1) in x) rest in
    known_as c.split_seat-seat.new.seat (record c.args.who { splits = c.args.who.splits + 1 }) c.who.inside.number (c.who.inside.splits + 1) now (ap (λ (x : Known g.row.O.Denot g.row.O-Entry.Denot). x.number) c.who.view_is) (ap (λ (x : Known g.row.O.Denot g.row.O-Entry.Denot). x.splits + 1) c.who.view_is) (c.split_seat-seat.ensures.0 ∙ ap (λ (x : Known g.row.O.Denot g.row.O-Entry.Denot). x.lock) c.who.view_is)

pub returns-clause-second : goal.returns-clause-second
returns-clause-second g c = let rest = rests c.who.inside.seat c.who.inside.number c.who.inside.splits c.args.who c.who.invariant c.who.view_is in
    let now = c.split_seat-seat.ensures.4 ∙ ap (λ (m : Sat g.row.O.Denot g.row.O-Entry.Denot). let x : Sat g.row.O.Denot g.row.O-Entry.Denot = (newest m.0, []) in x) rest in
    known_as c.split_seat-seat.result (record c.args.who { number = c.args.who.splits + 1; splits = 0; mine = [] }) (c.who.inside.splits + 1) 0 now (ap (λ (x : Known g.row.O.Denot g.row.O-Entry.Denot). x.splits + 1) c.who.view_is) refl (c.split_seat-seat.ensures.3 ∙ ap (λ (x : Known g.row.O.Denot g.row.O-Entry.Denot). x.lock) c.who.view_is)
