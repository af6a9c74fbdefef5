use Rattle.std.proofs.Common.{arith}
use Rattle.lw_runs.proofs.ChunkPuts.{put_in_front, put_in_back, half_front, half_back}
use Rattle.lw_runs.proofs.chunk.split_put.Goals as goal

pub returns-then-at-le-HALF-clause-items : goal.returns-then-at-le-HALF-clause-items
returns-then-at-le-HALF-clause-items g c =
    put_in_front c.args.chunk.now.items c.move_half.new.chunk.items c.move_half.new.back.items c.insert.new.self.items c.args.at c.args.run _ c.move_half.ensures.front c.move_half.ensures.back c.requires.full c.if-at-le-HALF.true c.insert.ensures.items
    (c.insert.ensures.succeeds (let size = half_front c.args.chunk.now.items c.move_half.new.chunk.items c.move_half.ensures.front c.requires.full in omega arith))

pub returns-else-at-le-HALF-clause-items : goal.returns-else-at-le-HALF-clause-items
returns-else-at-le-HALF-clause-items g c =
    put_in_back c.args.chunk.now.items c.move_half.new.chunk.items c.move_half.new.back.items c.insert-else-at-le-HALF.new.self.items c.args.at c.args.run _ c.move_half.ensures.front c.move_half.ensures.back c.requires.full (omega arith) c.insert-else-at-le-HALF.ensures.items
    (c.insert-else-at-le-HALF.ensures.succeeds (let size = half_back c.args.chunk.now.items c.move_half.new.back.items c.move_half.ensures.back c.requires.full in omega arith))
