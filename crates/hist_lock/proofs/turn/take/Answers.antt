use Rattle.std.proofs.Common.{◌≡◌, [], Some, ap, sym, ◌∙◌, subst}
use Rattle.hist_lock.specs.declared.table.Held.{Held}
use Rattle.hist_lock.specs.declared.table.Part.{Part}
use Rattle.hist_lock.specs.declared.table.Stage.TheVariants.{Idle}
use Rattle.hist_lock.specs.Views.{alone, part_of}
use Rattle.hist_lock.specs.Plays.{IsInside}
use Rattle.hist_lock.proofs.Rests.{Sat}
use Rattle.hist_lock.proofs.Turns.{if_true}
use Rattle.hist_lock.proofs.turn.take.Goals as goal

pub try_take-requires-clause-board : goal.try_take-requires-clause-board
try_take-requires-clause-board g c = (c.loop.invariant.0 ∙ c.requires.board.0, c.requires.board.1)

pub try_take-requires-clause-idle : goal.try_take-requires-clause-idle
try_take-requires-clause-idle g c = subst (λ (m : Sat g.row.O.Denot g.row.O-Entry.Denot). m ≡ (alone (Some c.args.steps.now.key.value) Idle (part_of m.0), [])) (sym c.loop.invariant.2) c.requires.idle

pub returns-then-try_take-clause-board : goal.returns-then-try_take-clause-board
returns-then-try_take-clause-board g c = (c.try_take.ensures.board.0 ∙ c.loop.invariant.0, c.try_take.ensures.board.1 ∙ c.loop.invariant.1)

pub returns-then-try_take-clause-taken : goal.returns-then-try_take-clause-taken
returns-then-try_take-clause-taken g c =
    subst (λ (p : Part g.row.O-Entry.Denot). (k : Held g.row.O.Denot g.row.O-Entry.Denot) × IsInside g.O.Serial.state g.O.Serial.tag g.O.Serial.by g.O.Serial.steps c.args.steps.now.key.value p k c.try_take.new.seat.me)
    (ap (λ (m : Sat g.row.O.Denot g.row.O-Entry.Denot). part_of m.0) c.loop.invariant.2) (if_true _ _ _ c.if-try_take.true c.try_take.ensures.taken)
