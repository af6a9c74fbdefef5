use Rattle.lw_payload.proofs.ListLaws.{Spends-start, Spends-first, Spends-step}
use Rattle.lw_payload.proofs.lists.spend_all.Goals as goal

pub loop-payload-init : goal.loop-payload-init
loop-payload-init g c = Spends-start g.P.Payload.seen _ _ _ c.into_iter-payload-iterator.ensures.into_iter_gives.0 c.requires.owned

pub spend-requires : goal.spend-requires
spend-requires g c = record { owned = Spends-first g.P.Payload.seen _ _ _ _ _ _ c.in-Some.ensures.steps.0 c.loop-payload.invariant }

pub loop-payload-preserved : goal.loop-payload-preserved
loop-payload-preserved g c =
    Spends-step g.P.Payload.seen _ _ _ _ _ _ _ c.in-Some.ensures.steps.0 c.loop-payload.invariant c.spend.ensures.moves
