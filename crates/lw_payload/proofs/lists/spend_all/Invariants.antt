use Rattle.lw_payload.proofs.ListLaws.{Spends}
use Rattle.lw_payload.proofs.lists.spend_all.Given as goal

abbrev pub invariant-loop-payload : goal.invariant-loop-payload
invariant-loop-payload g l =
    Spends g.P.Payload.seen (g.P.Payload.home_seen l.fn.home) (g.P.Payload.home_seen l.home) l.fn.payloads.items l.payload-iterator.rest.items
