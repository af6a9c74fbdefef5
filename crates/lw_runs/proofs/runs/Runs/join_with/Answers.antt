use Rattle.std.proofs.Common.{ap, ◌∙◌}
use Rattle.lw_runs.proofs.HoldsLaws.{Holds-then}
use Rattle.lw_runs.proofs.RunsLaws.{joins_in}
use Rattle.lw_runs.proofs.runs.Runs.join_with.Goals as goal

pub join_all-requires : goal.join_all-requires
join_all-requires g c =
    let may = joins_in g.P.Payload.seen c.self.inside.chunks.runs c.put.new.self.runs c.args.self.octets c.args.self.bodies c.self.inside.reach c.self.inside.count c.self.inside.parts c.self.inside.len c.args.from c.len.result c.args.body
    (record {
      are = c.self.invariant;
      seen_octets = ap (λ k. k.octets) c.self.view_is;
      seen_bodies = ap (λ k. k.bodies) c.self.view_is;
      size = c.len.ensures;
      some = c.requires.some;
      short = c.requires.short;
      free = c.requires.free;
      family = c.requires.family;
    }) c.requires.joins c.put.ensures in
    record { some = may.some; room = may.room; family = may.family; short = may.short }

pub returns : goal.returns
returns g c =
    let may = joins_in g.P.Payload.seen c.self.inside.chunks.runs c.put.new.self.runs c.args.self.octets c.args.self.bodies c.self.inside.reach c.self.inside.count c.self.inside.parts c.self.inside.len c.args.from c.len.result c.args.body
    (record {
      are = c.self.invariant;
      seen_octets = ap (λ k. k.octets) c.self.view_is;
      seen_bodies = ap (λ k. k.bodies) c.self.view_is;
      size = c.len.ensures;
      some = c.requires.some;
      short = c.requires.short;
      free = c.requires.free;
      family = c.requires.family;
    }) c.requires.joins c.put.ensures in
    record {
      octets = c.join_all.ensures.octets ∙ may.text;
      bodies = Holds-then g.P.Payload.seen _ _ _ may.holds c.join_all.ensures.bodies;
    }
