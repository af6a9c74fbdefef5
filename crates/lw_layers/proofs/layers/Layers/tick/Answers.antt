use Rattle.std.proofs.Common.{◌≡◌, ◌∙◌, ℕ, List, refl, sym, ap, take}
use Rattle.lw_base.specs.declared.addresses.Ip.{Ip}
use Rattle.lw_netif.specs.Frames.{frames_left}
use Rattle.lw_arp.specs.Neighbours.{aged, map_entries, packets}
use Rattle.lw_arp.proofs.MapLaws.{aged-map_entries, asked_again-map_entries}
use Rattle.lw_link.specs.Way.{Way, knows}
use Rattle.lw_reass.specs.Table.{all_kept}
use Rattle.lw_layers.specs.declared.layers.Layers.{Layers}
use Rattle.lw_input.specs.Input.{begun}
use Rattle.lw_layers.specs.Layers.{held_in, state_of}
use Rattle.lw_input.specs.State.{State}
use Rattle.lw_layers.specs.Ticks.{asks_all, tick_moved}
use Rattle.lw_layers.proofs.TickLaws.{packets_owned, state_ticked, ticked_layers, ticked_moves}
use Rattle.lw_layers.proofs.layers.Layers.tick.Goals as goal

pub age_neighbours-requires-clause-owned : goal.age_neighbours-requires-clause-owned
age_neighbours-requires-clause-owned g c =
    packets_owned g.P.Payload.seen (g.P.Payload.home_seen c.args.home.now) (g.P.Payload.home_seen c.age_fragments.new.home) (packets c.args.self.now.neighbours) (all_kept c.args.self.now.fragments) (all_kept c.age_fragments.new.fragments)
    c.requires.owned c.age_fragments.ensures.moves

-- the frames that were planned
pub returns-clause-state : goal.returns-clause-state
returns-clause-state g c =
    let s : State = state_of g.P.Payload.seen c.args.self.now in
    let f : g.row.P.Denot → List ℕ = λ p. (g.P.Payload.seen p).octets in
    let way : Way = knows (begun s) (aged s.link.neighbours) in
    let frames_is : c.in_ok-frames.frames.items ≡ (tick_moved s).way.out =
    c.in_ok-frames.ensures way.link refl refl
    ∙ ap (λ (ips : List Ip). (asks_all way ips).out) (c.deref.ensures.value ∙ c.in_ok-asked.ensures ∙ sym (asked_again-map_entries f c.args.self.now.neighbours)) in
    ap (state_of g.P.Payload.seen)
    (ticked_layers c.args.self.now c.count_tick.new.self c.send.new.self c.age_neighbours.new.table c.age_fragments.new.fragments c.in_ok-frames.frames.items c.count_tick.ensures c.send.ensures.sent)
    ∙ state_ticked s (map_entries f c.age_neighbours.new.table) c.age_fragments.new.fragments.datagrams c.in_ok-frames.frames.items
    (ap (map_entries f) c.age_neighbours.ensures.table ∙ sym (aged-map_entries f c.args.self.now.neighbours)) c.age_fragments.ensures.datagrams frames_is

pub returns-clause-frames : goal.returns-clause-frames
returns-clause-frames g c =
    let s : State = state_of g.P.Payload.seen c.args.self.now in
    let f : g.row.P.Denot → List ℕ = λ p. (g.P.Payload.seen p).octets in
    let way : Way = knows (begun s) (aged s.link.neighbours) in
    let frames_is : c.in_ok-frames.frames.items ≡ (tick_moved s).way.out =
    c.in_ok-frames.ensures way.link refl refl
    ∙ ap (λ (ips : List Ip). (asks_all way ips).out) (c.deref.ensures.value ∙ c.in_ok-asked.ensures ∙ sym (asked_again-map_entries f c.args.self.now.neighbours)) in
    c.send.ensures.frames
    ∙ ap (λ (l : Layers g.row.P.Denot _). take (frames_left l.sent) c.in_ok-frames.frames.items) c.count_tick.ensures
    ∙ ap (take (frames_left s.sent)) frames_is

pub returns-clause-moves : goal.returns-clause-moves
returns-clause-moves g c =
    ticked_moves g.P.Payload.seen (g.P.Payload.home_seen c.args.home.now) (g.P.Payload.home_seen c.age_fragments.new.home) (g.P.Payload.home_seen c.age_neighbours.new.home)
    (packets c.args.self.now.neighbours) (all_kept c.args.self.now.fragments) (all_kept c.age_fragments.new.fragments) (packets c.age_neighbours.new.table) (held_in c.send.new.self)
    c.age_fragments.ensures.moves c.age_neighbours.ensures.moves
    (ap held_in (ticked_layers c.args.self.now c.count_tick.new.self c.send.new.self c.age_neighbours.new.table c.age_fragments.new.fragments c.in_ok-frames.frames.items c.count_tick.ensures c.send.ensures.sent))
