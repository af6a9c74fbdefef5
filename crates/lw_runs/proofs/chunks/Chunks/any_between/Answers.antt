use Rattle.std.proofs.Common.{ap}
use Rattle.lw_runs.proofs.ChunkTexts.{found_run, found_none}
use Rattle.lw_runs.proofs.chunks.Chunks.any_between.Goals as goal

pub returns-then-place-gt0 : goal.returns-then-place-gt0
returns-then-place-gt0 g c =
    found_run g.P.Payload.seen (λ v. v.items) c.args.self.now.runs c.self.inside.chunks.items c.deref.result.now c.args.from c.args.to c.place_of-place.result.chunk c.place_of-place.result.at c.index.result.now c.index-then-place-gt0.result.now
    c.requires.some (ap (λ k. k.runs) c.self.view_is) c.requires.order c.deref.ensures.value c.place_of-place.ensures c.if-place-gt0.true c.index.ensures c.index-then-place-gt0.ensures

pub returns-else-place-gt0 : goal.returns-else-place-gt0
returns-else-place-gt0 g c =
    found_none g.P.Payload.seen (λ v. v.items) c.args.self.now.runs c.self.inside.chunks.items c.deref.result.now c.args.from c.args.to c.place_of-place.result.chunk c.place_of-place.result.at
    c.requires.some (ap (λ k. k.runs) c.self.view_is) c.requires.order c.deref.ensures.value c.place_of-place.ensures c.if-place-gt0.false
