use Rattle.std.proofs.Common.{sym, ap, refl, subst}
use Rattle.lw_link.specs.Sound.{IsSoundWay}
use Rattle.lw_events.specs.declared.event.Event.TheVariants.{Tick}
use Rattle.lw_events.specs.declared.event.Reply.TheVariants.{Ticks}
use Rattle.lw_layers.specs.Calls.{HasVariables}
use Rattle.lw_layers.specs.History.{IsStep}
use Rattle.lw_input.specs.Input.{begun}
use Rattle.lw_layers.specs.Layers.{state_of}
use Rattle.lw_input.specs.State.{State}
use Rattle.lw_layers.specs.Ticks.{tick_moved}
use Rattle.lw_layers.proofs.SoundLaws.{ended_sound}
use Rattle.lw_layers.proofs.TickLaws.{is_ticked, tick_sound}
use Rattle.lw_core.specs.Held.{CoreSeen}
use Rattle.lw_core.proofs.step.Core.tick.Goals as goal

pub returns-clause-ok : goal.returns-clause-ok
returns-clause-ok g c =
    let s : State = state_of g.P.Payload.seen c.self.inside.layers in
    let t : State = state_of g.P.Payload.seen c.tick.new.self in
    subst (λ (x : CoreSeen g.row.P.Denot). IsStep x.state c.args.actor Tick c.entry.result.0 c.entry.result.1 t) c.self.view_is
    (is_ticked s t c.args.actor c.sent-made.result c.in_ok-frames.frames (Ticks c.tick.new.self.words.ticks) c.entry.result
    c.in_ok-frames.ensures.state c.in_ok-frames.ensures.frames c.sent-made.ensures (ap (λ (u : State). Ticks u.words.ticks) c.in_ok-frames.ensures.state) c.entry.ensures)

pub invariant_of-self-2 : goal.invariant_of-self-2
invariant_of-self-2 g c =
    let s : State = state_of g.P.Payload.seen c.self.inside.layers in
    subst (λ (t : State). IsSoundWay (begun t) × HasVariables t) (sym c.in_ok-frames.ensures.state)
    (ended_sound (tick_moved s).way (tick_sound s c.self.invariant.0), c.self.invariant.1)
