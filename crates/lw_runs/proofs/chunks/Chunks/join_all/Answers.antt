use Rattle.std.proofs.Common.{map, length, vec_capacity, ap, arith}
use Rattle.lw_runs.specs.Runs.{bodies_of}
use Rattle.lw_runs.specs.Chunked.{flat}
use Rattle.lw_runs.proofs.Joins.{some_room, some_family, some_short}
use Rattle.lw_runs.proofs.ChunkJoins.{first_some, joins_first, joins_next, joins_chunk, at_chunk}
use Rattle.lw_runs.proofs.chunks.Chunks.join_all.Goals as goal

pub remove-requires : goal.remove-requires
remove-requires g c =
    let some = first_some (λ v. length v.items) (λ v. vec_capacity v) c.self.inside.chunks.items c.into_iter-chunks.result.rest.items _ c.self.inside.spare c.in-Some.first c.self.invariant c.into_iter-chunks.ensures.rest c.in-Some.ensures.items in
    omega arith

pub join_runs-requires : goal.join_runs-requires
join_runs-requires g c =
    let joins = joins_first g.P.Payload.seen (λ v. v.items) c.args.self.runs c.self.inside.chunks.items c.into_iter-chunks.result.rest.items _ c.in-Some.first c.remove.new.self c.remove.result (ap (λ k. k.runs) c.self.view_is) c.into_iter-chunks.ensures.rest c.in-Some.ensures.items
    (let some = first_some (λ v. length v.items) (λ v. vec_capacity v) c.self.inside.chunks.items c.into_iter-chunks.result.rest.items _ c.self.inside.spare c.in-Some.first c.self.invariant c.into_iter-chunks.ensures.rest c.in-Some.ensures.items in some)
    c.remove.ensures.value c.remove.ensures.items c.requires.room c.requires.family c.requires.short in
    let some = bodies_of c.remove.new.self.items in
    let rest = bodies_of (flat (map (λ v. v.items) c.next.new.self.rest.items)) in
    record {
      room = some_room g.P.Payload.seen (bodies_of c.args.self.runs) c.remove.result.body some rest joins;
      family = some_family g.P.Payload.seen (bodies_of c.args.self.runs) c.remove.result.body some rest joins;
      short = some_short g.P.Payload.seen (bodies_of c.args.self.runs) c.remove.result.body some rest joins;
    }

pub loop-chunk-init : goal.loop-chunk-init
loop-chunk-init g c =
    let joins = joins_first g.P.Payload.seen (λ v. v.items) c.args.self.runs c.self.inside.chunks.items c.into_iter-chunks.result.rest.items _ c.in-Some.first c.remove.new.self c.remove.result (ap (λ k. k.runs) c.self.view_is) c.into_iter-chunks.ensures.rest c.in-Some.ensures.items
    (let some = first_some (λ v. length v.items) (λ v. vec_capacity v) c.self.inside.chunks.items c.into_iter-chunks.result.rest.items _ c.self.inside.spare c.in-Some.first c.self.invariant c.into_iter-chunks.ensures.rest c.in-Some.ensures.items in some)
    c.remove.ensures.value c.remove.ensures.items c.requires.room c.requires.family c.requires.short in
    joins_next g.P.Payload.seen (λ v. v.items) _ _ _ _ _ c.into_iter-chunk-iterator.result.rest.items (ap (λ s. s.rest.items) c.into_iter-chunk-iterator.ensures.into_iter_gives) joins
    (record { octets = c.join_runs.ensures.octets; holds = c.join_runs.ensures.bodies; room = c.join_runs.ensures.room })

pub join_runs-requires-in-loop-chunk : goal.join_runs-requires-in-loop-chunk
join_runs-requires-in-loop-chunk g c =
    let joins = at_chunk g.P.Payload.seen (λ v. v.items) (bodies_of c.args.self.runs) c.loop-chunk.all c.loop-chunk.chunk-iterator.rest.items _ c.in-Some-chunk.chunk c.in-Some-chunk.ensures.steps.0 c.loop-chunk.invariant in
    let some = bodies_of c.in-Some-chunk.chunk.items in
    let rest = bodies_of (flat (map (λ v. v.items) c.next-in-loop-chunk.new.self.rest.items)) in
    record {
      room = some_room g.P.Payload.seen (bodies_of c.args.self.runs) c.loop-chunk.all some rest joins;
      family = some_family g.P.Payload.seen (bodies_of c.args.self.runs) c.loop-chunk.all some rest joins;
      short = some_short g.P.Payload.seen (bodies_of c.args.self.runs) c.loop-chunk.all some rest joins;
    }

pub loop-chunk-preserved : goal.loop-chunk-preserved
loop-chunk-preserved g c =
    joins_chunk g.P.Payload.seen (λ v. v.items) (bodies_of c.args.self.runs) c.loop-chunk.all c.join_runs-in-loop-chunk.new.all c.loop-chunk.chunk-iterator.rest.items _ c.in-Some-chunk.chunk c.in-Some-chunk.ensures.steps.0 c.loop-chunk.invariant
    (record { octets = c.join_runs-in-loop-chunk.ensures.octets; holds = c.join_runs-in-loop-chunk.ensures.bodies; room = c.join_runs-in-loop-chunk.ensures.room })
