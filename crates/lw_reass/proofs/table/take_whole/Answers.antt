use Rattle.std.proofs.Common.{◌≡◌}
use Rattle.lw_reass.proofs.Tables.{here_all, whole_datagrams, whole_bodies}
use Rattle.lw_reass.proofs.table.take_whole.Goals as goal

pub join_with-requires-clause-family : goal.join_with-requires-clause-family
join_with-requires-clause-family g c =
    here_all (λ p. (g.P.Payload.seen p).family ≡ (g.P.Payload.seen c.args.body).family) c.args.opens.now.items c.args.place c.remove-runs.result c.requires.within c.remove-runs.ensures.value c.requires.family

pub returns-clause-datagrams : goal.returns-clause-datagrams
returns-clause-datagrams g c = whole_datagrams c.args.opens.now.items c.remove-runs.new.self.items c.args.place c.remove-runs.ensures.items

pub returns-clause-bodies : goal.returns-clause-bodies
returns-clause-bodies g c =
    whole_bodies g.P.Payload.seen c.args.opens.now.items c.remove-runs.new.self.items c.args.place c.remove-runs.result c.args.body c.join_with.result c.requires.within c.remove-runs.ensures.value c.remove-runs.ensures.items c.join_with.ensures.bodies
