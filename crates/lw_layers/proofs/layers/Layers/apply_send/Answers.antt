use Rattle.std.proofs.Common.{◌∙◌, ℕ, List, refl, ap}
use Rattle.lw_arp.specs.Neighbours.{map_entries}
use Rattle.lw_link.proofs.PlanLaws.{over_table, pending_of}
use Rattle.lw_input.specs.Input.{begun}
use Rattle.lw_layers.specs.Layers.{held_in, state_of}
use Rattle.lw_layers.specs.Sends.{datagram_out}
use Rattle.lw_input.specs.State.{State}
use Rattle.lw_layers.proofs.BothLaws.{spent_then}
use Rattle.lw_layers.proofs.SendLaws.{frames_sent, state_sent}
use Rattle.lw_layers.proofs.layers.Layers.apply_send.Goals as goal

pub carry-requires-clause-pending : goal.carry-requires-clause-pending
carry-requires-clause-pending g c =
    let s : State = state_of g.P.Payload.seen c.args.self.now in
    pending_of c.args.self.now.netif c.args.self.now.neighbours c.args.link s.link (datagram_out s.link.net (begun s) c.args.plan.now c.args._octets.now)
    (over_table (λ p. (g.P.Payload.seen p).octets) s.link c.args.self.now.neighbours c.args.self.now.netif refl refl) c.requires.plan

pub returns-clause-state : goal.returns-clause-state
returns-clause-state g c =
    let s : State = state_of g.P.Payload.seen c.args.self.now in
    let f : g.row.P.Denot → List ℕ = λ p. (g.P.Payload.seen p).octets in
    ap (state_of g.P.Payload.seen) c.carry.ensures.rest
    ∙ state_sent s c.args.plan.now c.args._octets.now c.args.link (map_entries f c.carry.new.self.neighbours) c.carry.result c.apply_send.new.self
    c.requires.plan c.carry.ensures.neighbours c.carry.ensures.frames c.apply_send.ensures

pub returns-clause-frames : goal.returns-clause-frames
returns-clause-frames g c =
    let s : State = state_of g.P.Payload.seen c.args.self.now in
    c.carry.ensures.frames ∙ frames_sent s c.args.plan.now c.args._octets.now c.args.link c.requires.plan

pub returns-clause-moves : goal.returns-clause-moves
returns-clause-moves g c =
    spent_then g.P.Payload.seen (g.P.Payload.home_seen c.args.home.now) (g.P.Payload.home_seen c.spend.new.home) (g.P.Payload.home_seen c.carry.new.home)
    c.args.claimed.rom c.args.claimed.ram (held_in c.args.self.now) (held_in c.carry.new.self) c.spend.ensures.moves c.carry.ensures.moves
