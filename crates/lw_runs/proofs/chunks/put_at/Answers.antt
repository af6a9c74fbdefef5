use Rattle.std.proofs.Common.{length, vec_capacity, arith}
use Rattle.lw_runs.proofs.ChunkPuts.{set_runs, split_runs, split_fits, chunk_room, place_left}
use Rattle.lw_runs.proofs.chunks.put_at.Goals as goal

pub returns-then-len-lt-CHUNK-clause-runs : goal.returns-then-len-lt-CHUNK-clause-runs
returns-then-len-lt-CHUNK-clause-runs g c =
    set_runs (λ v. v.items) c.args.chunks.now.items c.args.place.chunk c.args.place.at c.index_mut.result.now c.insert.new.self c.args.run _ c.requires.chunk_within c.requires.at_within c.index_mut.ensures.value c.insert.ensures.items
    (c.insert.ensures.succeeds (let room = chunk_room (λ v. v.items) (λ v. vec_capacity v) c.args.chunks.now.items c.args.spare.now c.args.place.chunk c.index_mut.result.now c.index.result.now c.requires.fits c.requires.chunk_within c.index_mut.ensures.value c.index.ensures (let few = c.if-len-lt-CHUNK.true in let len = c.len.ensures in omega arith) in omega arith))

pub returns-clause-runs : goal.returns-clause-runs
returns-clause-runs g c =
    split_runs (λ v. v.items) c.args.chunks.now.items c.insert-2.new.self.items c.args.place.chunk c.args.place.at c.index_mut-2.result.now c.split_put.new.chunk c.split_put.new.back c.args.run _ c.requires.chunk_within c.requires.at_within c.index_mut-2.ensures.value c.split_put.ensures.items c.insert-2.ensures.items
    (c.insert-2.ensures.succeeds (let left = place_left c.args.spare.now _ _ c.requires.room in omega arith))

pub returns-clause-fits : goal.returns-clause-fits
returns-clause-fits g c =
    split_fits (λ v. length v.items) (λ v. vec_capacity v) c.args.chunks.now.items c.insert-2.new.self.items c.args.spare.now c.take.new.self c.args.place.chunk c.split_put.new.chunk c.split_put.new.back _ c.requires.fits c.split_put.ensures.front c.split_put.ensures.back c.insert-2.ensures.items
    (c.insert-2.ensures.succeeds (let left = place_left c.args.spare.now _ _ c.requires.room in omega arith)) c.take.ensures.after
