use Rattle.std.proofs.Common.{nat_le, rules}
use Rattle.std.proofs.lemmas.Fn.{always_returns_same}
use Rattle.lw_runs.proofs.Searches.{parted, place_is}
use Rattle.lw_runs.proofs.chunk.place_in.Goals as goal

pub returns-clause-value : goal.returns-clause-value
returns-clause-value g c =
    place_is c.args.runs.now c.args.from c.partition_point.result c.partition_point.ensures.bound
    (c.partition_point.ensures.partitioned (λ r. nat_le r.at c.args.from) (always_returns_same _ _ _ (λ a r q k. search rules)) (parted g.P.Payload.seen 0 c.args.runs.now c.args.from c.requires))
