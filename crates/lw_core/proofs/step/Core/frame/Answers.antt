use Rattle.std.proofs.Common.{◌≡◌, List, flat_map, map, refl}
use Rattle.lw_runs.proofs.Stands.{same-refl}
use Rattle.lw_link.specs.Sound.{IsSoundWay}
use Rattle.lw_events.specs.Events.{had_place}
use Rattle.lw_layers.specs.declared.receive.Received.{Received}
use Rattle.lw_layers.specs.Calls.{HasVariables}
use Rattle.lw_input.specs.Input.{begun}
use Rattle.lw_layers.specs.Layers.{state_of}
use Rattle.lw_input.specs.State.{State}
use Rattle.lw_layers.proofs.SoundLaws.{granted_sound, granted_variables, received_by}
use Rattle.lw_core.proofs.step.Core.frame.Goals as goal

pub returns-in-Err-clause-err : goal.returns-in-Err-clause-err
returns-in-Err-clause-err g c = (record { state = refl; waiting = refl; kept = same-refl g.P.Payload.seen (flat_map (λ (ps : List g.row.P.Denot). ps) c.args.self.now.kept) }, refl)

pub invariant_of-self : goal.invariant_of-self
invariant_of-self g c =
    let s : State = state_of g.P.Payload.seen c.self.inside.layers in
    let t : State = state_of g.P.Payload.seen c.receive.new.self in
    let octets = c.as_slice.result.now in (
      received_by (λ u. IsSoundWay (begun u)) s t octets (λ (r : Received). r.short) (λ (r : Received). map had_place r.posts) _ c.receive.result c.self.invariant.0
          (λ b found. granted_sound s octets b found c.self.invariant.0) c.receive.ensures.state
          (λ e same. same.0.state) c.receive.ensures.err,
      received_by HasVariables s t octets (λ (r : Received). r.short) (λ (r : Received). map had_place r.posts) _ c.receive.result c.self.invariant.1
          (λ b found. granted_variables s octets b found c.self.invariant.1) c.receive.ensures.state
          (λ e same. same.0.state) c.receive.ensures.err,
    )
