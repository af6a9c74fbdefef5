use Rattle.std.proofs.Common.{◌∙◌, ap, refl}
use Rattle.std.specs.Vec.Iter.{into_iter_items}
use Rattle.lw_boxes.specs.Lists.{shelf_of}
use Rattle.lw_events.specs.declared.event.Event.TheVariants.{Stop}
use Rattle.lw_input.specs.State.{State}
use Rattle.lw_core.specs.Held.{held_by}
use Rattle.lwip_run.proofs.AtHome.{posted_home, same_home}
use Rattle.lwip_run.proofs.PlainCore.{posts_none, stays_none}
use Rattle.lwip_run.proofs.plain_api.PlainApi.end.Goals as goal

pub invariant_of-self : goal.invariant_of-self
invariant_of-self g c =
    let payload = g.P.Payload in (
      same_home payload.seen payload.home_seen payload.may_refuse c.self.inside.home c.step.new.home c.self.inside.core c.step.new.self
          (into_iter_items c.self.inside.left) c.in-Err.ensures.err.1 c.in-Err.ensures.err.0 c.self.invariant.0,
      c.step.ensures.boxes,
      ap (λ (s : State). s.endpoints.udp.ends) c.in-Err.ensures.err.0.state ∙ c.self.invariant.2,
    )

pub invariant_of-self-2 : goal.invariant_of-self-2
invariant_of-self-2 g c =
    let payload = g.P.Payload in
    let s : State = c.self.inside.core.state in
    let held = held_by c.self.inside.core in (
      posted_home payload.seen payload.home_seen payload.may_refuse c.self.inside.home c.self.inside.home c.step.new.home held held (held_by c.step.new.self)
          (into_iter_items c.self.inside.left) c.in-Ok.made.0.posts (shelf_of c.self.inside.boxes) (shelf_of c.step.new.boxes) c.self.invariant.0.owned c.in-Ok.ensures.posting
          (posts_none s c.args.actor Stop c.in-Ok.made.0 c.self.invariant.2 c.in-Ok.ensures.ok.made) c.self.invariant.0,
      c.step.ensures.boxes,
      stays_none s c.step.new.self.state c.args.actor Stop c.in-Ok.made.0 c.in-Ok.made.1 (λ grants. refl) c.self.invariant.2 c.in-Ok.ensures.ok,
    )
