use Rattle.std.proofs.Common.{◌∙◌, ℕ, List, [], ◌∷◌, refl, sym, ap, map, option_map, option_to_list, subst, take}
use Rattle.lw_payload.specs.Views.{Pools}
use Rattle.lw_netif.specs.Frames.{frames_left}
use Rattle.lw_arp.specs.declared.entries.ArpEntry.{ArpEntry}
use Rattle.lw_arp.specs.Neighbours.{map_entries}
use Rattle.lw_events.specs.Events.{had_place}
use Rattle.lw_link.specs.Way.{asked_for, waiting_in}
use Rattle.lw_link.proofs.PlanLaws.{over_table, pending_of}
use Rattle.lw_input.specs.Arrivals.{arrival_of}
use Rattle.lw_input.specs.Input.{moved}
use Rattle.lw_input.specs.State.{State}
use Rattle.lw_layers.specs.declared.layers.Layers.{Layers}
use Rattle.lw_layers.specs.declared.plan.FramePlan.{FramePlan}
use Rattle.lw_layers.specs.Boxes.{AreBoxesOf}
use Rattle.lw_layers.specs.Layers.{held_in, link_with, state_of, IsOfferOf}
use Rattle.lw_layers.proofs.ApplyLaws.{fragment_by, frames_applied, fresh_by, layers_left, link_net, offer_of, posts_applied, state_applied}
use Rattle.lw_layers.proofs.MoveLaws.{IsOwned-around}
use Rattle.lw_layers.proofs.PostLaws.{applied_posting, carry_owned, rest_owned}
use Rattle.lw_layers.proofs.layers.Layers.apply.Goals as goal

pub change-rest-requires-clause-owned : goal.change-rest-requires-clause-owned
change-rest-requires-clause-owned g c =
    IsOwned-around g.P.Payload.seen (g.P.Payload.home_seen c.args.home.now).pools.family (g.P.Payload.home_seen c.args.home.now) (c.args.frame ∷ []) (c.args.ready.ram ∷ []) (held_in c.args.self.now) c.requires.owned

pub change-rest-requires-clause-fresh : goal.change-rest-requires-clause-fresh
change-rest-requires-clause-fresh g c =
    let s : State = state_of g.P.Payload.seen c.args.self.now in
    fresh_by (λ p. (g.P.Payload.seen p).octets) c.args.self.now.neighbours s (arrival_of c.args.self.now.netif (g.P.Payload.seen c.args.frame).octets) c.args.ready.change refl c.requires.ready.plan.change

pub change-rest-requires-clause-plan : goal.change-rest-requires-clause-plan
change-rest-requires-clause-plan g c =
    let s : State = state_of g.P.Payload.seen c.args.self.now in
    fragment_by s (arrival_of c.args.self.now.netif (g.P.Payload.seen c.args.frame).octets) c.args.ready.change c.requires.ready.plan.change

pub deliver-requires-clause-owned : goal.deliver-requires-clause-owned
deliver-requires-clause-owned g c =
    rest_owned g.P.Payload.seen (g.P.Payload.home_seen c.args.home.now) (g.P.Payload.home_seen c.change-rest.new.home) c.args.frame c.args.ready.ram (held_in c.args.self.now) (option_to_list c.change-rest.result) (held_in c.change-rest.new.self)
    c.requires.owned c.change-rest.ensures.moves

pub deliver-requires-clause-offer : goal.deliver-requires-clause-offer
deliver-requires-clause-offer g c =
    let s : State = state_of g.P.Payload.seen c.args.self.now in
    subst (λ e. IsOfferOf e.conns (option_map (λ p. (g.P.Payload.seen p).octets) c.change-rest.result) c.args.ready.offer) (sym (ap (λ (l : Layers g.row.P.Denot _). l.endpoints) c.change-rest.ensures.same))
    (offer_of s.endpoints.conns s.fragments (g.P.Payload.seen c.args.frame).octets c.args.ready.change (option_map (λ p. (g.P.Payload.seen p).octets) c.change-rest.result) c.requires.ready.mail c.args.ready.offer
    c.change-rest.ensures.rest c.requires.ready.plan.mail c.requires.ready.offer)

pub deliver-requires-clause-boxes : goal.deliver-requires-clause-boxes
deliver-requires-clause-boxes g c =
    subst (λ e. AreBoxesOf e.conns (g.B.Boxes.seen c.args.boxes.now)) (sym (ap (λ (l : Layers g.row.P.Denot _). l.endpoints) c.change-rest.ensures.same)) c.requires.boxes

pub deliver-requires-clause-fits : goal.deliver-requires-clause-fits
deliver-requires-clause-fits g c = λ ip port p family. c.requires.fits ip port p (family ∙ ap (λ (x : Pools). x.family) c.change-rest.ensures.moves.pools)

pub carry-frames-requires-clause-owned : goal.carry-frames-requires-clause-owned
carry-frames-requires-clause-owned g c =
    carry_owned g.P.Payload.seen (g.P.Payload.home_seen c.args.home.now) (g.P.Payload.home_seen c.change-rest.new.home) (g.P.Payload.home_seen c.deliver.new.home) c.args.ready.offer.posts
    (g.B.Boxes.seen c.args.boxes.now) (g.B.Boxes.seen c.deliver.new.boxes) c.args.frame c.args.ready.ram (held_in c.args.self.now) (option_to_list c.change-rest.result) (held_in c.change-rest.new.self) (held_in c.deliver.new.self)
    c.requires.owned c.change-rest.ensures.moves c.deliver.ensures.posting (ap held_in c.deliver.ensures.layers)

pub carry-frames-requires-clause-pending : goal.carry-frames-requires-clause-pending
carry-frames-requires-clause-pending g c =
    let s : State = state_of g.P.Payload.seen c.args.self.now in
    let f : g.row.P.Denot → List ℕ = λ p. (g.P.Payload.seen p).octets in
    let octets : List ℕ = (g.P.Payload.seen c.args.frame).octets in
    pending_of c.args.self.now.netif c.deliver.new.self.neighbours c.args.ready.link (link_with s.link c.args.ready.change) (moved s octets (arrival_of c.args.self.now.netif octets)).way
    (over_table f (link_with s.link c.args.ready.change) c.deliver.new.self.neighbours c.args.self.now.netif
    (sym (ap (λ (l : Layers g.row.P.Denot _). map_entries f l.neighbours) c.deliver.ensures.layers ∙ c.change-rest.ensures.neighbours)) (link_net s.link c.args.ready.change))
    c.requires.ready.plan.sends

pub returns-clause-state : goal.returns-clause-state
returns-clause-state g c =
    let s : State = state_of g.P.Payload.seen c.args.self.now in
    let f : g.row.P.Denot → List ℕ = λ p. (g.P.Payload.seen p).octets in
    let octets : List ℕ = (g.P.Payload.seen c.args.frame).octets in
    let plan : FramePlan = record { change = c.args.ready.change; link = c.args.ready.link; mail = c.requires.ready.mail } in
    ap (state_of g.P.Payload.seen)
    (layers_left c.args.self.now c.change-rest.new.self c.deliver.new.self c.carry-frames.new.self c.count.new.self c.carry-frames.new.self.neighbours c.args.ready.offer.post c.args.ready.link.next_id c.carry-frames.result c.args.ready.link.frames.items
    c.change-rest.ensures.same c.deliver.ensures.layers c.carry-frames.ensures.rest c.carry-frames.ensures.frames c.count.ensures)
    ∙ state_applied s octets plan c.args.ready.offer (map_entries f c.carry-frames.new.self.neighbours) c.change-rest.new.self.fragments.datagrams c.requires.ready.plan c.requires.ready.offer
    (c.carry-frames.ensures.neighbours
    ∙ ap (λ (t : List (ArpEntry (List ℕ))). waiting_in (asked_for t c.args.ready.link.asked.items) c.args.ready.link.waits)
    (ap (λ (l : Layers g.row.P.Denot _). map_entries f l.neighbours) c.deliver.ensures.layers ∙ c.change-rest.ensures.neighbours))
    c.change-rest.ensures.fragments

pub returns-clause-frames : goal.returns-clause-frames
returns-clause-frames g c =
    let s : State = state_of g.P.Payload.seen c.args.self.now in
    let octets : List ℕ = (g.P.Payload.seen c.args.frame).octets in
    let plan : FramePlan = record { change = c.args.ready.change; link = c.args.ready.link; mail = c.requires.ready.mail } in
    c.carry-frames.ensures.frames
    ∙ ap (λ (l : Layers g.row.P.Denot _). take (frames_left l.sent) c.args.ready.link.frames.items) c.deliver.ensures.layers
    ∙ ap (λ (l : Layers g.row.P.Denot _). take (frames_left l.sent) c.args.ready.link.frames.items) c.change-rest.ensures.same
    ∙ frames_applied s octets plan (map had_place c.args.ready.offer.posts) c.requires.ready.plan

pub returns-clause-posts : goal.returns-clause-posts
returns-clause-posts g c =
    let s : State = state_of g.P.Payload.seen c.args.self.now in
    let plan : FramePlan = record { change = c.args.ready.change; link = c.args.ready.link; mail = c.requires.ready.mail } in
    posts_applied s (g.P.Payload.seen c.args.frame).octets plan c.args.ready.offer c.args.ready.offer.posts c.requires.ready.plan c.requires.ready.offer refl

pub returns-clause-posting : goal.returns-clause-posting
returns-clause-posting g c =
    applied_posting g.P.Payload.seen (g.P.Payload.home_seen c.args.home.now) (g.P.Payload.home_seen c.change-rest.new.home) (g.P.Payload.home_seen c.deliver.new.home) (g.P.Payload.home_seen c.carry-frames.new.home) c.args.ready.offer.posts
    (g.B.Boxes.seen c.args.boxes.now) (g.B.Boxes.seen c.deliver.new.boxes) c.args.frame c.args.ready.ram (held_in c.args.self.now) (option_to_list c.change-rest.result) (held_in c.change-rest.new.self) (held_in c.deliver.new.self)
    (held_in c.carry-frames.new.self) (held_in c.count.new.self)
    c.change-rest.ensures.moves c.deliver.ensures.posting (ap held_in c.deliver.ensures.layers) c.carry-frames.ensures.moves (ap held_in c.count.ensures)

pub returns-clause-boxes : goal.returns-clause-boxes
returns-clause-boxes g c =
    subst (λ e. AreBoxesOf e.conns (g.B.Boxes.seen c.deliver.new.boxes))
    (sym (ap (λ (l : Layers g.row.P.Denot _). l.endpoints) c.count.ensures ∙ ap (λ (l : Layers g.row.P.Denot _). l.endpoints) c.carry-frames.ensures.rest)) c.deliver.ensures.boxes
