use Rattle.std.proofs.Common.{◌≡◌, ◌∙◌, ◌∷◌, ap, map, subst, sym}
use Rattle.lw_payload.specs.Views.{Pools}
use Rattle.lw_boxes.specs.declared.item.Item.TheVariants.{Datagram}
use Rattle.lw_events.specs.Events.{had_place}
use Rattle.lw_layers.specs.declared.receive.Received.{Received}
use Rattle.lw_layers.specs.Layers.{held_in, state_of}
use Rattle.lw_layers.specs.Step.{frame_granted}
use Rattle.lw_layers.specs.Outcomes.{Outcome}
use Rattle.lw_layers.proofs.ClaimLaws.{claimed_owned, held_same, in_none, in_some, refused_then}
use Rattle.lw_layers.proofs.ReceiveLaws.{asked_boxes, claimed_posting, dropped_posting, dropped_state, granted_as}
use Rattle.lw_layers.proofs.layers.Layers.receive.Goals as goal

pub apply-requires-clause-owned : goal.apply-requires-clause-owned
apply-requires-clause-owned g c =
    claimed_owned g.P.Payload.seen (g.P.Payload.home_seen c.args.home.now) (g.P.Payload.home_seen c.ready.new.home) c.args.frame c.ready.new.frame c.in-Ok-Some.ready.ram (held_in c.args.self.now) (held_in c.ready.new.self)
    c.ready.ensures.frame (held_same g.P.Payload.seen c.args.self.now c.ready.new.self c.ready.ensures.same) (in_some _ _ c.in-Ok-Some.field-0 c.in-Ok-Some.ready c.in-Ok-Some.field-0-is c.in-Ok-Some.ensures.claimed) c.requires.owned

pub apply-requires-clause-boxes : goal.apply-requires-clause-boxes
apply-requires-clause-boxes g c =
    asked_boxes g.P.Payload.seen c.args.self.now c.ready.new.self (g.B.Boxes.seen c.args.boxes.now) (g.B.Boxes.seen c.ready.new.boxes) c.ready.ensures.same c.ready.ensures.asked c.requires.boxes

pub apply-requires-clause-fits : goal.apply-requires-clause-fits
apply-requires-clause-fits g c = λ ip port p family.
    let claimed = in_some _ _ c.in-Ok-Some.field-0 c.in-Ok-Some.ready c.in-Ok-Some.field-0-is c.in-Ok-Some.ensures.claimed in
    subst (λ t. g.B.Boxes.fits t (Datagram ip port p)) (sym c.ready.ensures.terms) (c.requires.fits ip port p (family ∙ ap (λ (x : Pools). x.family) claimed.pools))

pub returns-in-Ok-Some-clause-state : goal.returns-in-Ok-Some-clause-state
returns-in-Ok-Some-clause-state g c =
    granted_as (λ (o : Outcome). o.state) (state_of g.P.Payload.seen c.args.self.now) (state_of g.P.Payload.seen c.ready.new.self) c.args.octets.now (g.P.Payload.seen c.ready.new.frame).octets c.apply.result.short
    (map had_place c.apply.result.posts) (state_of g.P.Payload.seen c.apply.new.self) c.apply.ensures.short c.ready.ensures.same.state (c.ready.ensures.frame.octets ∙ sym c.requires.octets) c.apply.ensures.state

pub returns-in-Ok-Some-clause-frames : goal.returns-in-Ok-Some-clause-frames
returns-in-Ok-Some-clause-frames g c =
    granted_as (λ (o : Outcome). o.frames) (state_of g.P.Payload.seen c.args.self.now) (state_of g.P.Payload.seen c.ready.new.self) c.args.octets.now (g.P.Payload.seen c.ready.new.frame).octets c.apply.result.short
    (map had_place c.apply.result.posts) c.apply.result.frames c.apply.ensures.short c.ready.ensures.same.state (c.ready.ensures.frame.octets ∙ sym c.requires.octets) c.apply.ensures.frames

pub returns-in-Ok-Some-clause-posts : goal.returns-in-Ok-Some-clause-posts
returns-in-Ok-Some-clause-posts g c =
    granted_as (λ (o : Outcome). o.posts) (state_of g.P.Payload.seen c.args.self.now) (state_of g.P.Payload.seen c.ready.new.self) c.args.octets.now (g.P.Payload.seen c.ready.new.frame).octets c.apply.result.short
    (map had_place c.apply.result.posts) c.apply.result.posts c.apply.ensures.short c.ready.ensures.same.state (c.ready.ensures.frame.octets ∙ sym c.requires.octets) c.apply.ensures.posts

pub returns-in-Ok-Some-clause-posting : goal.returns-in-Ok-Some-clause-posting
returns-in-Ok-Some-clause-posting g c =
    claimed_posting g.P.Payload.seen (g.P.Payload.home_seen c.args.home.now) (g.P.Payload.home_seen c.ready.new.home) (g.P.Payload.home_seen c.apply.new.home) c.apply.result.posts
    (g.B.Boxes.seen c.args.boxes.now) (g.B.Boxes.seen c.ready.new.boxes) (g.B.Boxes.seen c.apply.new.boxes) c.args.frame c.ready.new.frame c.in-Ok-Some.ready.ram
    (held_in c.args.self.now) (held_in c.ready.new.self) (held_in c.apply.new.self)
    c.ready.ensures.frame (held_same g.P.Payload.seen c.args.self.now c.ready.new.self c.ready.ensures.same) (in_some _ _ c.in-Ok-Some.field-0 c.in-Ok-Some.ready c.in-Ok-Some.field-0-is c.in-Ok-Some.ensures.claimed)
    c.ready.ensures.asked c.apply.ensures.posting

pub returns-in-Ok-None-clause-state : goal.returns-in-Ok-None-clause-state
returns-in-Ok-None-clause-state g c =
    subst (λ (r : Received). state_of g.P.Payload.seen c.count.new.self ≡ (frame_granted (state_of g.P.Payload.seen c.args.self.now) c.args.octets.now r.short (map had_place r.posts)).state) (sym c.nothing.ensures)
    (dropped_state g.P.Payload.seen c.args.self.now c.ready.new.self c.count.new.self c.ready.ensures.same c.count.ensures)

pub returns-in-Ok-None-clause-posting : goal.returns-in-Ok-None-clause-posting
returns-in-Ok-None-clause-posting g c =
    dropped_posting g.P.Payload.seen (g.P.Payload.home_seen c.args.home.now) (g.P.Payload.home_seen c.spend.new.home) c.nothing.result.posts (g.B.Boxes.seen c.args.boxes.now) (g.B.Boxes.seen c.ready.new.boxes)
    (c.args.frame ∷ held_in c.args.self.now) (held_in c.count.new.self) (ap (λ (r : Received). r.posts) c.nothing.ensures) c.ready.ensures.asked
    (refused_then g.P.Payload.seen g.P.Payload.may_refuse c.args.home.now (g.P.Payload.home_seen c.args.home.now) (g.P.Payload.home_seen c.ready.new.home) (g.P.Payload.home_seen c.spend.new.home) c.args.frame c.ready.new.frame
    (held_in c.args.self.now) (held_in c.ready.new.self) (held_in c.count.new.self)
    c.ready.ensures.frame (held_same g.P.Payload.seen c.args.self.now c.ready.new.self c.ready.ensures.same) (in_none _ _ c.in-Ok-None.field-0 c.in-Ok-None.field-0-is c.in-Ok-None.ensures.claimed) c.spend.ensures.moves (ap held_in c.count.ensures))
