use Rattle.std.specs.Vec.Iter.{into_iter_items}
use Rattle.lwip_run.proofs.PlainCore.{rest_bodies}
use Rattle.lwip_run.proofs.plain_api.PlainApi.next_frame.Goals as goal

pub invariant_of-self : goal.invariant_of-self
invariant_of-self g c = (
  record {
    never = c.self.invariant.0.never;
    owned = c.self.invariant.0.owned;
    frames = rest_bodies c.next.result (into_iter_items c.self.inside.left) (into_iter_items c.next.new.self) c.next.ensures.items c.self.invariant.0.frames;
  },
  c.self.invariant.1,
  c.self.invariant.2,
)
