use Rattle.std.proofs.Common.{ap}
use Rattle.lw_runs.proofs.ChunkPuts.{put_there}
use Rattle.lw_runs.proofs.chunks.Chunks.put.Goals as goal

pub returns : goal.returns
returns g c =
    put_there (λ v. v.items) c.self.inside.chunks.items c.deref.result.now c.put_at.new.chunks.items c.args.self.now.runs c.args.run c.place_of-place.result.chunk c.place_of-place.result.at (ap (λ k. k.runs) c.self.view_is) c.deref.ensures.value c.place_of-place.ensures c.put_at.ensures.runs
