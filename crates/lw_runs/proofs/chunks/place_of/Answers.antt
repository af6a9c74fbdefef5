use Rattle.std.proofs.Common.{rules, arith}
use Rattle.std.proofs.lemmas.Fn.{always_returns_same}
use Rattle.lw_runs.specs.Chunked.{begins_by}
use Rattle.lw_runs.proofs.ChunkPlaces.{chunks_parted, place_found, found_order}
use Rattle.lw_runs.proofs.chunks.place_of.Goals as goal

pub place_in-requires : goal.place_in-requires
place_in-requires g c =
    rw c.deref.ensures.value
    (found_order g.P.Payload.seen (λ v. v.items) c.args.chunks.now c.saturating_sub-chunk.result c.index-chunks-chunk.result
    (let some = c.requires.some in let bound = c.partition_point-begun.ensures.bound in let e = c.saturating_sub-chunk.ensures in omega arith)
    c.requires.order c.index-chunks-chunk.is)

pub returns : goal.returns
returns g c =
    place_found g.P.Payload.seen (λ v. v.items) c.args.chunks.now c.args.from c.partition_point-begun.result c.saturating_sub-chunk.result c.place_in.result c.index-chunks-chunk.result
    c.requires.some c.requires.sizes c.requires.order c.partition_point-begun.ensures.bound
    (c.partition_point-begun.ensures.partitioned (λ v. begins_by c.args.from v.items) (always_returns_same _ _ _ (λ a r q k. search rules)) (chunks_parted g.P.Payload.seen (λ v. v.items) 0 c.args.from c.args.chunks.now c.requires.sizes c.requires.order))
    c.saturating_sub-chunk.ensures c.index-chunks-chunk.is (rw c.deref.ensures.value at c.place_in.ensures.value)
