use Rattle.std.proofs.Common.{refl, ap, arith}
use Rattle.lw_runs.specs.Lists.{put}
use Rattle.lw_runs.proofs.RunsLaws.{keeps, run_at}
use Rattle.lw_runs.proofs.Stands.{Stand-runs}
use Rattle.lw_runs.proofs.runs.Runs.keep.Goals as goal

pub overflow_add-self : goal.overflow_add-self
overflow_add-self g c =
    let kept = keeps g.P.Payload.seen c.self.inside.chunks.runs (put (run_at c.args.from c.len.result c.args.body) c.self.inside.chunks.runs) c.args.self.now.octets c.args.self.now.bodies c.self.inside.reach c.self.inside.count c.self.inside.parts c.self.inside.len c.args.from c.len.result c.parts-parts.result c.args.body
    (record {
      are = c.self.invariant;
      seen_octets = ap (λ k. k.octets) c.self.view_is;
      seen_bodies = ap (λ k. k.bodies) c.self.view_is;
      size = c.len.ensures;
      some = c.requires.some;
      short = c.requires.short;
      free = c.requires.free;
      family = c.requires.family;
    }) c.parts-parts.ensures.exact c.parts-parts.ensures.few refl in
    let few = kept.few in omega arith

pub overflow_add-self-2 : goal.overflow_add-self-2
overflow_add-self-2 g c =
    let kept = keeps g.P.Payload.seen c.self.inside.chunks.runs (put (run_at c.args.from c.len.result c.args.body) c.self.inside.chunks.runs) c.args.self.now.octets c.args.self.now.bodies c.self.inside.reach c.self.inside.count c.self.inside.parts c.self.inside.len c.args.from c.len.result c.parts-parts.result c.args.body
    (record {
      are = c.self.invariant;
      seen_octets = ap (λ k. k.octets) c.self.view_is;
      seen_bodies = ap (λ k. k.bodies) c.self.view_is;
      size = c.len.ensures;
      some = c.requires.some;
      short = c.requires.short;
      free = c.requires.free;
      family = c.requires.family;
    }) c.parts-parts.ensures.exact c.parts-parts.ensures.few refl in
    let few = kept.few in omega arith

pub overflow_add-self-3 : goal.overflow_add-self-3
overflow_add-self-3 g c =
    let kept = keeps g.P.Payload.seen c.self.inside.chunks.runs (put (run_at c.args.from c.len.result c.args.body) c.self.inside.chunks.runs) c.args.self.now.octets c.args.self.now.bodies c.self.inside.reach c.self.inside.count c.self.inside.parts c.self.inside.len c.args.from c.len.result c.parts-parts.result c.args.body
    (record {
      are = c.self.invariant;
      seen_octets = ap (λ k. k.octets) c.self.view_is;
      seen_bodies = ap (λ k. k.bodies) c.self.view_is;
      size = c.len.ensures;
      some = c.requires.some;
      short = c.requires.short;
      free = c.requires.free;
      family = c.requires.family;
    }) c.parts-parts.ensures.exact c.parts-parts.ensures.few refl in
    let few = kept.few in omega arith

pub put-requires : goal.put-requires
put-requires g c = record { order = c.self.invariant.order; room = rw (ap (λ k. k.room) c.self.view_is) c.requires.room }

pub invariant_of-self : goal.invariant_of-self
invariant_of-self g c =
    let kept = keeps g.P.Payload.seen c.self.inside.chunks.runs c.put.new.self.runs c.args.self.now.octets c.args.self.now.bodies c.self.inside.reach c.self.inside.count c.self.inside.parts c.self.inside.len c.args.from c.len.result c.parts-parts.result c.args.body
    (record {
      are = c.self.invariant;
      seen_octets = ap (λ k. k.octets) c.self.view_is;
      seen_bodies = ap (λ k. k.bodies) c.self.view_is;
      size = c.len.ensures;
      some = c.requires.some;
      short = c.requires.short;
      free = c.requires.free;
      family = c.requires.family;
    }) c.parts-parts.ensures.exact c.parts-parts.ensures.few c.put.ensures in
    rw c.max-self-inside.ensures kept.are

pub returns : goal.returns
returns g c =
    let kept = keeps g.P.Payload.seen c.self.inside.chunks.runs c.put.new.self.runs c.args.self.now.octets c.args.self.now.bodies c.self.inside.reach c.self.inside.count c.self.inside.parts c.self.inside.len c.args.from c.len.result c.parts-parts.result c.args.body
    (record {
      are = c.self.invariant;
      seen_octets = ap (λ k. k.octets) c.self.view_is;
      seen_bodies = ap (λ k. k.bodies) c.self.view_is;
      size = c.len.ensures;
      some = c.requires.some;
      short = c.requires.short;
      free = c.requires.free;
      family = c.requires.family;
    }) c.parts-parts.ensures.exact c.parts-parts.ensures.few c.put.ensures in
    record { octets = kept.seen_octets; bodies = kept.holds; number = kept.one_more; stand = Stand-runs g.P.Payload.seen 0 c.put.new.self.runs kept.are.order }
