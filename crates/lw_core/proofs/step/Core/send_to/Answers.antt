use Rattle.std.proofs.Common.{◌≡◌, ◌∙◌, length, sym, ap, subst}
use Rattle.lw_base.specs.declared.limits.Limits.{Limits}
use Rattle.lw_link.specs.Sound.{IsSoundWay}
use Rattle.lw_events.specs.declared.event.Event.TheVariants.{SendTo}
use Rattle.lw_layers.specs.Calls.{HasVariables}
use Rattle.lw_layers.specs.History.{IsStep}
use Rattle.lw_input.specs.Input.{begun}
use Rattle.lw_layers.specs.declared.layers.Layers.{Layers}
use Rattle.lw_layers.specs.Layers.{state_of}
use Rattle.lw_input.specs.State.{State}
use Rattle.lw_layers.proofs.SendLaws.{is_sent, send_keeps, send_sound}
use Rattle.lw_core.specs.Held.{CoreSeen}
use Rattle.lw_core.proofs.step.Core.send_to.Goals.{in-Ok, in-Err}
use Rattle.lw_core.proofs.step.Core.send_to.Goals as goal

pub returns-clause-ok : goal.returns-clause-ok
returns-clause-ok g c =
    let s : State = state_of g.P.Payload.seen c.self.inside.layers in
    let t : State = state_of g.P.Payload.seen c.send_to.new.self in
    elim c.match-send_to.branch [
      | in-Ok w ↦
          rw w.result-is
          (subst (λ (x : CoreSeen g.row.P.Denot). IsStep x.state c.args.actor (SendTo c.args.conn c.args.ip c.args.port c.args.given) w.entry.result.0 w.entry.result.1 t) c.self.view_is
          (is_sent s t c.args.actor c.args.conn c.args.ip c.args.port c.args.given w.in-Ok.made w.in-Ok.reply w.entry.result
          w.in-Ok.ensures.state w.in-Ok.ensures.told w.in-Ok.ensures.reply w.entry.ensures))
      | in-Err w ↦ rw w.result-is tt
    ]

pub returns-clause-conns : goal.returns-clause-conns
returns-clause-conns g c =
    let s : State = state_of g.P.Payload.seen c.self.inside.layers in
    elim c.match-send_to.branch [
      | in-Ok w ↦
          ap (λ (u : State). u.endpoints.conns) w.in-Ok.ensures.state
          ∙ (send_keeps s c.args.conn c.args.ip c.args.port c.args.given w.in-Ok.made.short).conns
          ∙ ap (λ (x : CoreSeen g.row.P.Denot). x.state.endpoints.conns) c.self.view_is
      | in-Err w ↦
          ap (λ (l : Layers g.row.P.Denot _). l.endpoints.conns) w.in-Err.ensures.err.0
          ∙ ap (λ (x : CoreSeen g.row.P.Denot). x.state.endpoints.conns) c.self.view_is
    ]

pub invariant_of-self : goal.invariant_of-self
invariant_of-self g c =
    let s : State = state_of g.P.Payload.seen c.self.inside.layers in
    elim c.match-send_to.branch [
      | in-Ok w ↦
          let keeps = send_keeps s c.args.conn c.args.ip c.args.port c.args.given w.in-Ok.made.short in
          subst (λ (t : State). IsSoundWay (begun t) × HasVariables t) (sym w.in-Ok.ensures.state) (
            send_sound s c.args.conn c.args.ip c.args.port c.args.given w.in-Ok.made.short c.self.invariant.0,
            ap length keeps.vars ∙ c.self.invariant.1 ∙ sym (ap (λ (l : Limits). l.variables) keeps.limits),
          )
      | in-Err w ↦
          subst (λ (l : Layers g.row.P.Denot _). IsSoundWay (begun (state_of g.P.Payload.seen l)) × HasVariables (state_of g.P.Payload.seen l)) (sym w.in-Err.ensures.err.0) c.self.invariant
    ]
