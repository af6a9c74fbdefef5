use Rattle.std.proofs.Common.{ap}
use Rattle.lw_runs.proofs.Stands.{same-refl}
use Rattle.lw_reass.specs.Table.{all_kept}
use Rattle.lw_reass.proofs.Adds.{same_seen, joins_seen}
use Rattle.lw_reass.proofs.table.Reass.ready.Goals as goal

pub returns-in-Refuse-clause-bodies : goal.returns-in-Refuse-clause-bodies
returns-in-Refuse-clause-bodies g c = same-refl g.P.Payload.seen (all_kept c.args.self.now)

pub returns-in-Keep-clause-bodies : goal.returns-in-Keep-clause-bodies
returns-in-Keep-clause-bodies g c =
    same_seen g.P.Payload.seen c.args.self.now c.self.inside.opens.items c.room_in.new.opens.items (ap (λ r. r.kept) c.self.view_is) c.room_in.ensures.kept

pub returns-in_err-room_in-in-Complete-clause-bodies : goal.returns-in_err-room_in-in-Complete-clause-bodies
returns-in_err-room_in-in-Complete-clause-bodies g c =
    same_seen g.P.Payload.seen c.args.self.now c.self.inside.opens.items c.room_in-in-Complete.new.opens.items (ap (λ r. r.kept) c.self.view_is) c.room_in-in-Complete.ensures.kept

pub returns-in_ok-room_in-in-Complete-clause-bodies : goal.returns-in_ok-room_in-in-Complete-clause-bodies
returns-in_ok-room_in-in-Complete-clause-bodies g c =
    joins_seen g.P.Payload.seen c.args.self.now c.self.inside.opens.items c.room_in-in-Complete.new.opens.items c.room_to_join.new.opens.items (ap (λ r. r.kept) c.self.view_is) c.room_in-in-Complete.ensures.kept c.room_to_join.ensures.bodies
