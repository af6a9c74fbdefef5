use Rattle.std.proofs.Common.{◌^◌, ◌<◌, length, map, refl}
use Rattle.lw_runs.specs.Chunked.{flat}
use Rattle.lw_runs.proofs.ChunkTexts.{all_chunk}
use Rattle.lw_runs.proofs.chunks.copy_all.Goals as goal

pub copy_runs-requires : goal.copy_runs-requires
copy_runs-requires g c =
    rw c.deref.ensures.value
    (all_chunk (λ p. length (g.P.Payload.seen p).octets < 2 ^ 32) (λ v. v.items) (flat (map (λ v. v.items) c.args.chunks.now)) c.args.chunks.now c.loop-chunk.chunk-index c.chunk-item.result refl c.loop-chunk-test.true c.chunk-item.is c.requires)
