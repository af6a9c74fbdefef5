use Rattle.lw_runs.proofs.Joins.{at_next, joins_more, next_family, begun, room_left}
use Rattle.lw_runs.proofs.chunk.join_runs.Goals as goal

pub loop-run-init : goal.loop-run-init
loop-run-init g c =
    let first = begun g.P.Payload.seen c.args.all.now c.args.runs.items c.into_iter-run-iterator.result.rest.items c.into_iter-run-iterator.ensures.into_iter_gives.0 c.requires.room c.requires.family c.requires.short in
    record { joins = first.0; room = first.1 }

pub join-requires-clause-family : goal.join-requires-clause-family
join-requires-clause-family g c =
    next_family g.P.Payload.seen _ _ _ _ (at_next g.P.Payload.seen _ c.loop-run.all _ _ c.in-Some.run' c.in-Some.ensures.steps.0 c.loop-run.invariant.joins)

pub loop-run-preserved : goal.loop-run-preserved
loop-run-preserved g c =
    record {
      joins = joins_more g.P.Payload.seen _ _ _ _ _ (at_next g.P.Payload.seen _ c.loop-run.all _ _ c.in-Some.run' c.in-Some.ensures.steps.0 c.loop-run.invariant.joins) c.join.ensures;
      room = room_left g.P.Payload.seen _ _ _ _ c.in-Some.run' _ _ c.in-Some.ensures.steps.0 c.join.ensures c.loop-run.invariant.room;
    }
