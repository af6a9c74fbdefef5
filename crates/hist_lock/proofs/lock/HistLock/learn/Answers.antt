use Rattle.std.proofs.Common.{rules, ◌≡◌, [], Option, Some, ap, sym, ◌∙◌, subst}
use mathlib.Core.List.{IsPrefix}
use Rattle.hist_lock.specs.declared.table.View.{View}
use Rattle.hist_lock.specs.declared.table.Stage.TheVariants.{Idle}
use Rattle.hist_lock.specs.Histories.{Legal, longer}
use Rattle.hist_lock.specs.Views.{alone, note_of}
use Rattle.hist_lock.specs.Callers.{Known, Begun, HasHistory, part_from}
use Rattle.hist_lock.proofs.Steps.{tells_at, learns_at, hears_at}
use Rattle.hist_lock.proofs.Rests.{Sat, rests, rests_at, known_as, resting_as, informed_is, heard_is}
use Rattle.hist_lock.proofs.lock.HistLock.learn.Goals as goal

pub split_seat-note-requires : goal.split_seat-note-requires
split_seat-note-requires g c = let rest = rests_at c.other.inside.seat c.other.inside.number c.other.inside.splits c.args.other.now c.args.self.now (record { lock = c.self.inside.table.shared.table_id; start = c.self.inside.table.shared.key.value }) c.other.invariant c.other.view_is c.requires.other.1 c.self.view_is in
    (search rules, search rules, tells_at g.O.Serial.state g.O.Serial.tag g.O.Serial.by g.O.Serial.steps _ _ _ _ (ap (λ (m : Sat g.row.O.Denot g.row.O-Entry.Denot). m.0) rest))

pub join_seat-requires : goal.join_seat-requires
join_seat-requires g c = let rest = rests_at c.who.inside.seat c.who.inside.number c.who.inside.splits c.args.who.now c.args.self.now (record { lock = c.self.inside.table.shared.table_id; start = c.self.inside.table.shared.key.value }) c.who.invariant c.who.view_is c.requires.own.1 c.self.view_is in
    let rest' = rests_at c.other.inside.seat c.other.inside.number c.other.inside.splits c.args.other.now c.args.self.now (record { lock = c.self.inside.table.shared.table_id; start = c.self.inside.table.shared.key.value }) c.other.invariant c.other.view_is c.requires.other.1 c.self.view_is in
    let note = ap (λ (m : Sat g.row.O.Denot g.row.O-Entry.Denot). m.0) c.split_seat-note.ensures.4 ∙ ap (λ (m : Sat g.row.O.Denot g.row.O-Entry.Denot). note_of m.0) rest' in
    (search rules, search rules, search rules, search rules, learns_at g.O.Serial.state g.O.Serial.tag g.O.Serial.by g.O.Serial.steps _ _ _ _ _ _ _ _ (ap (λ (m : Sat g.row.O.Denot g.row.O-Entry.Denot). m.0) rest) note)

pub load-requires : goal.load-requires
load-requires g c = let rest = rests_at c.who.inside.seat c.who.inside.number c.who.inside.splits c.args.who.now c.args.self.now (record { lock = c.self.inside.table.shared.table_id; start = c.self.inside.table.shared.key.value }) c.who.invariant c.who.view_is c.requires.own.1 c.self.view_is in
    let rest' = rests_at c.other.inside.seat c.other.inside.number c.other.inside.splits c.args.other.now c.args.self.now (record { lock = c.self.inside.table.shared.table_id; start = c.self.inside.table.shared.key.value }) c.other.invariant c.other.view_is c.requires.other.1 c.self.view_is in
    let note = ap (λ (m : Sat g.row.O.Denot g.row.O-Entry.Denot). m.0) c.split_seat-note.ensures.4 ∙ ap (λ (m : Sat g.row.O.Denot g.row.O-Entry.Denot). note_of m.0) rest' in
    let told = informed_is _ (part_from c.args.who.now) c.args.other.now.seen c.join_seat.new.seat.me c.who.inside.seat.me.0 c.split_seat-note.result.me.0 c.who.inside.seat.me.1 rest (ap (λ (v : View g.row.O.Denot g.row.O-Entry.Denot). v.told) note) c.join_seat.ensures.2 in
    (search rules, search rules, hears_at g.O.Serial.state g.O.Serial.tag g.O.Serial.by g.O.Serial.steps _ _ _ _ _ _ told)

pub invariant_of-other : goal.invariant_of-other
invariant_of-other g c = let now = c.split_seat-note.ensures.2 ∙ rests c.other.inside.seat c.other.inside.number c.other.inside.splits c.args.other.now c.other.invariant c.other.view_is in
    resting_as c.split_seat-note.new.seat c.args.other.now c.other.inside.number c.other.inside.splits now (ap (λ (x : Known g.row.O.Denot g.row.O-Entry.Denot). x.number) c.other.view_is) (ap (λ (x : Known g.row.O.Denot g.row.O-Entry.Denot). x.splits) c.other.view_is)

pub invariant_of-who : goal.invariant_of-who
invariant_of-who g c = let rest = rests_at c.who.inside.seat c.who.inside.number c.who.inside.splits c.args.who.now c.args.self.now (record { lock = c.self.inside.table.shared.table_id; start = c.self.inside.table.shared.key.value }) c.who.invariant c.who.view_is c.requires.own.1 c.self.view_is in
    let rest' = rests_at c.other.inside.seat c.other.inside.number c.other.inside.splits c.args.other.now c.args.self.now (record { lock = c.self.inside.table.shared.table_id; start = c.self.inside.table.shared.key.value }) c.other.invariant c.other.view_is c.requires.other.1 c.self.view_is in
    let note = ap (λ (m : Sat g.row.O.Denot g.row.O-Entry.Denot). m.0) c.split_seat-note.ensures.4 ∙ ap (λ (m : Sat g.row.O.Denot g.row.O-Entry.Denot). note_of m.0) rest' in
    let told = informed_is _ (part_from c.args.who.now) c.args.other.now.seen c.join_seat.new.seat.me c.who.inside.seat.me.0 c.split_seat-note.result.me.0 c.who.inside.seat.me.1 rest (ap (λ (v : View g.row.O.Denot g.row.O-Entry.Denot). v.told) note) c.join_seat.ensures.2 in
    let did = heard_is g.O.Serial.state g.O.Serial.by g.O.Serial.steps _ (part_from c.args.who.now) c.args.other.now.seen c.join_seat.new.seat.me c.load.result c.load.new.seat.me told c.load.ensures.2 in
    let own : Some c.self.inside.table.shared.key.value ≡ c.args.who.now.start = ap (λ (x : Begun g.row.O.Denot). Some x.start) c.self.view_is ∙ sym c.requires.own.1 in
    let now = did.0 ∙ ap (λ (x : Option g.row.O.Denot). let m : Sat g.row.O.Denot g.row.O-Entry.Denot = (alone x Idle (record (part_from c.args.who.now) { seen = longer c.args.who.now.seen c.args.other.now.seen }), []) in m) own in
    resting_as c.load.new.seat (record c.args.who.now { seen = longer c.args.who.now.seen c.args.other.now.seen }) c.who.inside.number c.who.inside.splits now (ap (λ (x : Known g.row.O.Denot g.row.O-Entry.Denot). x.number) c.who.view_is) (ap (λ (x : Known g.row.O.Denot g.row.O-Entry.Denot). x.splits) c.who.view_is)

pub returns-clause-who : goal.returns-clause-who
returns-clause-who g c = let rest = rests_at c.who.inside.seat c.who.inside.number c.who.inside.splits c.args.who.now c.args.self.now (record { lock = c.self.inside.table.shared.table_id; start = c.self.inside.table.shared.key.value }) c.who.invariant c.who.view_is c.requires.own.1 c.self.view_is in
    let rest' = rests_at c.other.inside.seat c.other.inside.number c.other.inside.splits c.args.other.now c.args.self.now (record { lock = c.self.inside.table.shared.table_id; start = c.self.inside.table.shared.key.value }) c.other.invariant c.other.view_is c.requires.other.1 c.self.view_is in
    let note = ap (λ (m : Sat g.row.O.Denot g.row.O-Entry.Denot). m.0) c.split_seat-note.ensures.4 ∙ ap (λ (m : Sat g.row.O.Denot g.row.O-Entry.Denot). note_of m.0) rest' in
    let told = informed_is _ (part_from c.args.who.now) c.args.other.now.seen c.join_seat.new.seat.me c.who.inside.seat.me.0 c.split_seat-note.result.me.0 c.who.inside.seat.me.1 rest (ap (λ (v : View g.row.O.Denot g.row.O-Entry.Denot). v.told) note) c.join_seat.ensures.2 in
    let did = heard_is g.O.Serial.state g.O.Serial.by g.O.Serial.steps _ (part_from c.args.who.now) c.args.other.now.seen c.join_seat.new.seat.me c.load.result c.load.new.seat.me told c.load.ensures.2 in
    let own : Some c.self.inside.table.shared.key.value ≡ c.args.who.now.start = ap (λ (x : Begun g.row.O.Denot). Some x.start) c.self.view_is ∙ sym c.requires.own.1 in
    let now = did.0 ∙ ap (λ (x : Option g.row.O.Denot). let m : Sat g.row.O.Denot g.row.O-Entry.Denot = (alone x Idle (record (part_from c.args.who.now) { seen = longer c.args.who.now.seen c.args.other.now.seen }), []) in m) own in
    known_as c.load.new.seat (record c.args.who.now { seen = longer c.args.who.now.seen c.args.other.now.seen }) c.who.inside.number c.who.inside.splits now (ap (λ (x : Known g.row.O.Denot g.row.O-Entry.Denot). x.number) c.who.view_is) (ap (λ (x : Known g.row.O.Denot g.row.O-Entry.Denot). x.splits) c.who.view_is) (c.load.ensures.0 ∙ (c.join_seat.ensures.0 ∙ ap (λ (x : Known g.row.O.Denot g.row.O-Entry.Denot). x.lock) c.who.view_is))

pub returns-clause-both : goal.returns-clause-both
returns-clause-both g c = let rest = rests_at c.who.inside.seat c.who.inside.number c.who.inside.splits c.args.who.now c.args.self.now (record { lock = c.self.inside.table.shared.table_id; start = c.self.inside.table.shared.key.value }) c.who.invariant c.who.view_is c.requires.own.1 c.self.view_is in
    let rest' = rests_at c.other.inside.seat c.other.inside.number c.other.inside.splits c.args.other.now c.args.self.now (record { lock = c.self.inside.table.shared.table_id; start = c.self.inside.table.shared.key.value }) c.other.invariant c.other.view_is c.requires.other.1 c.self.view_is in
    let note = ap (λ (m : Sat g.row.O.Denot g.row.O-Entry.Denot). m.0) c.split_seat-note.ensures.4 ∙ ap (λ (m : Sat g.row.O.Denot g.row.O-Entry.Denot). note_of m.0) rest' in
    let told = informed_is _ (part_from c.args.who.now) c.args.other.now.seen c.join_seat.new.seat.me c.who.inside.seat.me.0 c.split_seat-note.result.me.0 c.who.inside.seat.me.1 rest (ap (λ (v : View g.row.O.Denot g.row.O-Entry.Denot). v.told) note) c.join_seat.ensures.2 in
    let did = heard_is g.O.Serial.state g.O.Serial.by g.O.Serial.steps _ (part_from c.args.who.now) c.args.other.now.seen c.join_seat.new.seat.me c.load.result c.load.new.seat.me told c.load.ensures.2 in
    let own : Some c.self.inside.table.shared.key.value ≡ c.args.who.now.start = ap (λ (x : Begun g.row.O.Denot). Some x.start) c.self.view_is ∙ sym c.requires.own.1 in
    let now = did.0 ∙ ap (λ (x : Option g.row.O.Denot). let m : Sat g.row.O.Denot g.row.O-Entry.Denot = (alone x Idle (record (part_from c.args.who.now) { seen = longer c.args.who.now.seen c.args.other.now.seen }), []) in m) own in
    let is = known_as c.load.new.seat (record c.args.who.now { seen = longer c.args.who.now.seen c.args.other.now.seen }) c.who.inside.number c.who.inside.splits now (ap (λ (x : Known g.row.O.Denot g.row.O-Entry.Denot). x.number) c.who.view_is) (ap (λ (x : Known g.row.O.Denot g.row.O-Entry.Denot). x.splits) c.who.view_is) (c.load.ensures.0 ∙ (c.join_seat.ensures.0 ∙ ap (λ (x : Known g.row.O.Denot g.row.O-Entry.Denot). x.lock) c.who.view_is)) in
    subst (λ (x : Known g.row.O.Denot g.row.O-Entry.Denot). IsPrefix c.args.who.now.seen x.seen × IsPrefix c.args.other.now.seen x.seen) (sym is) (did.2.begins, did.1)

pub returns-clause-history : goal.returns-clause-history
returns-clause-history g c = let rest = rests_at c.who.inside.seat c.who.inside.number c.who.inside.splits c.args.who.now c.args.self.now (record { lock = c.self.inside.table.shared.table_id; start = c.self.inside.table.shared.key.value }) c.who.invariant c.who.view_is c.requires.own.1 c.self.view_is in
    let rest' = rests_at c.other.inside.seat c.other.inside.number c.other.inside.splits c.args.other.now c.args.self.now (record { lock = c.self.inside.table.shared.table_id; start = c.self.inside.table.shared.key.value }) c.other.invariant c.other.view_is c.requires.other.1 c.self.view_is in
    let note = ap (λ (m : Sat g.row.O.Denot g.row.O-Entry.Denot). m.0) c.split_seat-note.ensures.4 ∙ ap (λ (m : Sat g.row.O.Denot g.row.O-Entry.Denot). note_of m.0) rest' in
    let told = informed_is _ (part_from c.args.who.now) c.args.other.now.seen c.join_seat.new.seat.me c.who.inside.seat.me.0 c.split_seat-note.result.me.0 c.who.inside.seat.me.1 rest (ap (λ (v : View g.row.O.Denot g.row.O-Entry.Denot). v.told) note) c.join_seat.ensures.2 in
    let did = heard_is g.O.Serial.state g.O.Serial.by g.O.Serial.steps _ (part_from c.args.who.now) c.args.other.now.seen c.join_seat.new.seat.me c.load.result c.load.new.seat.me told c.load.ensures.2 in
    let own : Some c.self.inside.table.shared.key.value ≡ c.args.who.now.start = ap (λ (x : Begun g.row.O.Denot). Some x.start) c.self.view_is ∙ sym c.requires.own.1 in
    let now = did.0 ∙ ap (λ (x : Option g.row.O.Denot). let m : Sat g.row.O.Denot g.row.O-Entry.Denot = (alone x Idle (record (part_from c.args.who.now) { seen = longer c.args.who.now.seen c.args.other.now.seen }), []) in m) own in
    let is = known_as c.load.new.seat (record c.args.who.now { seen = longer c.args.who.now.seen c.args.other.now.seen }) c.who.inside.number c.who.inside.splits now (ap (λ (x : Known g.row.O.Denot g.row.O-Entry.Denot). x.number) c.who.view_is) (ap (λ (x : Known g.row.O.Denot g.row.O-Entry.Denot). x.splits) c.who.view_is) (c.load.ensures.0 ∙ (c.join_seat.ensures.0 ∙ ap (λ (x : Known g.row.O.Denot g.row.O-Entry.Denot). x.lock) c.who.view_is)) in
    subst (λ (x : Known g.row.O.Denot g.row.O-Entry.Denot). HasHistory g.O.Serial.state g.O.Serial.by g.O.Serial.steps c.args.self.now.start x) (sym is) (
      subst (λ (b : Begun g.row.O.Denot). (t : g.O.Serial.State) × Legal g.O.Serial.steps (g.O.Serial.state b.start) (longer c.args.who.now.seen c.args.other.now.seen) t) c.self.view_is did.2.legal,
      sym did.2.made,
    )

pub returns-clause-other : goal.returns-clause-other
returns-clause-other g c = let now = c.split_seat-note.ensures.2 ∙ rests c.other.inside.seat c.other.inside.number c.other.inside.splits c.args.other.now c.other.invariant c.other.view_is in
    known_as c.split_seat-note.new.seat c.args.other.now c.other.inside.number c.other.inside.splits now (ap (λ (x : Known g.row.O.Denot g.row.O-Entry.Denot). x.number) c.other.view_is) (ap (λ (x : Known g.row.O.Denot g.row.O-Entry.Denot). x.splits) c.other.view_is) (c.split_seat-note.ensures.0 ∙ ap (λ (x : Known g.row.O.Denot g.row.O-Entry.Denot). x.lock) c.other.view_is)
