use Rattle.std.proofs.Common.{◌≡◌, ◌+◌, ◌∙◌, [], ◌∷◌, IfOk, length, ap, refl, subst}
use Rattle.std.specs.Vec.Iter.{into_iter_items}
use Rattle.lw_boxes.specs.Lists.{shelf_of}
use Rattle.lw_events.specs.declared.event.Event.TheVariants.{Frame}
use Rattle.lw_input.specs.State.{State}
use Rattle.lw_layers.proofs.NoEnds.{fed_ends}
use Rattle.lw_core.specs.Held.{held_by}
use Rattle.lwip_run.proofs.AtHome.{like_home, made_home, posted_home, same_home}
use Rattle.lw_rules.specs.Schedule.{Configuration, made}
use Rattle.lwip_run.proofs.PlainCore.{fed_made, posts_none, stays_none}
use Rattle.lwip_run.proofs.plain_api.PlainApi.feed.Goals as goal

pub invariant_of-self : goal.invariant_of-self
invariant_of-self g c =
    let payload = g.P.Payload in (
      like_home payload.seen payload.home_seen payload.may_refuse c.self.inside.home c.made_frame.new.home (held_by c.self.inside.core)
          (into_iter_items c.self.inside.left) c.in_err-frame.ensures.err c.self.invariant.0,
      c.self.invariant.1,
      c.self.invariant.2,
    )

pub step-requires-clause-owned : goal.step-requires-clause-owned
step-requires-clause-owned g c = c.in_ok-frame.ensures.owned (held_by c.self.inside.core) c.self.invariant.0.owned

pub invariant_of-self-in-Err : goal.invariant_of-self-in-Err
invariant_of-self-in-Err g c =
    let payload = g.P.Payload in
    let held = held_by c.self.inside.core in
    let left = into_iter_items c.self.inside.left in
    let made =
    made_home payload.seen payload.home_seen payload.may_refuse c.self.inside.home c.made_frame.new.home c.in_ok-frame.frame held left
    (c.in_ok-frame.ensures.owned held c.self.invariant.0.owned) c.self.invariant.0 in (
      same_home payload.seen payload.home_seen payload.may_refuse c.made_frame.new.home c.step.new.home c.self.inside.core c.step.new.self
          left c.in-Err.ensures.err.1 c.in-Err.ensures.err.0 made,
      c.step.ensures.boxes,
      ap (λ (s : State). s.endpoints.udp.ends) c.in-Err.ensures.err.0.state ∙ c.self.invariant.2,
    )

pub invariant_of-self-2 : goal.invariant_of-self-2
invariant_of-self-2 g c =
    let payload = g.P.Payload in
    let s : State = c.self.inside.core.state in
    let octets = (payload.seen c.in_ok-frame.frame).octets in
    let held = held_by c.self.inside.core in (
      posted_home payload.seen payload.home_seen payload.may_refuse c.self.inside.home c.made_frame.new.home c.step.new.home held
          (c.in_ok-frame.frame ∷ held) (held_by c.step.new.self) (into_iter_items c.self.inside.left) c.in-Ok.made.0.posts (shelf_of c.self.inside.boxes) (shelf_of c.step.new.boxes)
          (c.in_ok-frame.ensures.owned held c.self.invariant.0.owned) c.in-Ok.ensures.posting
          (posts_none s c.args.actor (Frame octets) c.in-Ok.made.0 c.self.invariant.2 c.in-Ok.ensures.ok.made) c.self.invariant.0,
      c.step.ensures.boxes,
      stays_none s c.step.new.self.state c.args.actor (Frame octets) c.in-Ok.made.0 c.in-Ok.made.1 (fed_ends s octets) c.self.invariant.2 c.in-Ok.ensures.ok,
    )

pub returns : goal.returns
returns g c =
    let payload = g.P.Payload in
    let before : Configuration = record { state = c.self.inside.core.state; left = into_iter_items c.self.inside.left; entries = c.self.inside.entries } in
    let after : Configuration = record { state = c.step.new.self.state; left = into_iter_items c.self.inside.left; entries = c.push.new.self } in
    subst (λ (x : Configuration). IfOk c.push.result (λ n. (after ≡ made x c.args.actor (Frame c.args.octets.now ∷ [])) × (n ≡ length x.entries + 1))) c.self.view_is
    (fed_made payload.home_seen payload.may_refuse c.made_frame.new.home before after c.args.actor c.args.octets.now (payload.seen c.in_ok-frame.frame).octets c.in-Ok.made.0 c.in-Ok.made.1 c.push.result
    c.self.invariant.2 c.self.invariant.0.never c.in-Ok.ensures.short c.in-Ok.ensures.ok c.in_ok-frame.ensures.octets refl c.push.ensures)
