use Rattle.std.proofs.Common.{◌^◌, ◌<◌, length, ap, arith}
use Rattle.lw_runs.proofs.ChunkTexts.{all_chunk, not_zero}
use Rattle.lw_runs.proofs.chunks.Chunks.room_in_first.Goals as goal

pub room_in_first-requires : goal.room_in_first-requires
room_in_first-requires g c =
    all_chunk (λ p. length (g.P.Payload.seen p).octets < 2 ^ 32) (λ v. v.items) c.args.self.now.runs c.self.inside.chunks.items 0 c.index_mut.result.now (ap (λ k. k.runs) c.self.view_is) (let some = not_zero _ c.if-is_empty.ensures in omega arith) c.index_mut.ensures.value c.requires
