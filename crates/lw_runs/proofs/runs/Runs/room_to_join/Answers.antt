use Rattle.std.proofs.Common.{ap}
use Rattle.std.proofs.lemmas.Result.{on_ok_weaker}
use Rattle.lw_runs.proofs.RunsLaws.{runs_short, AreRuns-changed, can_join, some_is}
use Rattle.lw_runs.proofs.Stands.{same-changed, same-refl}
use Rattle.lw_runs.proofs.runs.Runs.room_to_join.Goals as goal

pub room_in_first-requires : goal.room_in_first-requires
room_in_first-requires g c = runs_short g.P.Payload.seen c.self.inside.chunks.runs _ _ _ _ c.self.invariant

pub invariant_of-self : goal.invariant_of-self
invariant_of-self g c =
    AreRuns-changed g.P.Payload.seen c.self.inside.chunks.runs c.room_in_first.new.self.runs c.self.inside.reach c.self.inside.count c.self.inside.parts c.self.inside.len c.self.invariant c.room_in_first.ensures.first

pub returns-clause-bodies : goal.returns-clause-bodies
returns-clause-bodies g c =
    rw (← ap (λ k. k.bodies) c.self.view_is) (same-changed g.P.Payload.seen c.self.inside.chunks.runs c.room_in_first.new.self.runs c.room_in_first.ensures.first)

pub returns-clause-ok : goal.returns-clause-ok
returns-clause-ok g c =
    on_ok_weaker c.room_in_first.result
    (λ first. can_join g.P.Payload.seen c.self.inside.chunks.runs c.room_in_first.new.self.runs (g.P.Payload.seen c.room.new.self) c.self.inside.parts c.parts.result c.in_ok-parts.parts c.room_in_first.ensures.first c.self.invariant.all_parts c.parts.ensures.exact
    (some_is c.checked_add.result _ _ c.in_ok-parts.parts c.checked_add.ensures c.in_ok-parts.ensures.ok_part) c.in_ok-room.ensures.ok first) c.room_in_first.ensures.ok

pub returns-in_err-room-clause-bodies : goal.returns-in_err-room-clause-bodies
returns-in_err-room-clause-bodies g c = same-refl g.P.Payload.seen c.args.self.now.bodies

pub returns-in_err-parts-clause-bodies : goal.returns-in_err-parts-clause-bodies
returns-in_err-parts-clause-bodies g c = same-refl g.P.Payload.seen c.args.self.now.bodies
