use Rattle.std.proofs.Common.{◌≡◌, ◌∙◌, ◌⊎◌, [], Bool, true, IfOk, Ok, Err, length, refl, sym, ap, subst}
use Rattle.lw_payload.specs.declared.kinds.Kind.{Kind}
use Rattle.lw_payload.specs.declared.kinds.Kind.TheVariants.{Ram}
use Rattle.lw_payload.specs.Views.{IsShort}
use Rattle.lw_payload.specs.Totals.{Total, total}
use Rattle.lw_payload.proofs.TotalLaws.{IsSameTotal-self, Moves-same}
use Rattle.lw_events.specs.declared.event.Reply.TheVariants.{Done, Fail}
use Rattle.lw_layers.specs.Claims.{IsShortOf}
use Rattle.lw_layers.specs.Layers.{held_in, state_of}
use Rattle.lw_layers.specs.Outcomes.{Outcome}
use Rattle.lw_layers.proofs.SendLaws.{by_call, fault_told}
use Rattle.lw_layers.proofs.layers.Layers.send_to.Goals as goal

pub returns-in-Ok-clause-state : goal.returns-in-Ok-clause-state
returns-in-Ok-clause-state g c =
    let s = state_of g.P.Payload.seen c.args.self.now in
    by_call s c.args.conn c.args.ip c.args.port c.args.given.now c.data_of-octets.result.now (length c.data_of-octets.result.now) (Ok c.in-Ok.plan)
    (λ (step : Bool → Outcome). IfOk c.send_planned.result (λ r. state_of g.P.Payload.seen c.send_planned.new.self ≡ (step r.0.short).state))
    c.data_of-octets.ensures refl (sym c.in-Ok.is ∙ c.plan_send.ensures.exact) c.send_planned.ensures.state

pub returns-in-Ok-clause-told : goal.returns-in-Ok-clause-told
returns-in-Ok-clause-told g c =
    let s = state_of g.P.Payload.seen c.args.self.now in
    by_call s c.args.conn c.args.ip c.args.port c.args.given.now c.data_of-octets.result.now (length c.data_of-octets.result.now) (Ok c.in-Ok.plan)
    (λ (step : Bool → Outcome). IfOk c.send_planned.result (λ r. r.0 ≡ record { posts = []; frames = (step r.0.short).frames; short = (step r.0.short).short }))
    c.data_of-octets.ensures refl (sym c.in-Ok.is ∙ c.plan_send.ensures.exact) c.send_planned.ensures.told

pub returns-in-Ok-clause-reply : goal.returns-in-Ok-clause-reply
returns-in-Ok-clause-reply g c =
    let s = state_of g.P.Payload.seen c.args.self.now in
    by_call s c.args.conn c.args.ip c.args.port c.args.given.now c.data_of-octets.result.now (length c.data_of-octets.result.now) (Ok c.in-Ok.plan)
    (λ (step : Bool → Outcome). IfOk c.send_planned.result (λ r. r.1 ≡ (step r.0.short).reply))
    c.data_of-octets.ensures refl (sym c.in-Ok.is ∙ c.plan_send.ensures.exact) c.send_planned.ensures.reply

pub returns-in-Ok-clause-short : goal.returns-in-Ok-clause-short
returns-in-Ok-clause-short g c =
    let h = g.P.Payload.home_seen c.args.home.now in
    subst (λ (k : Kind). IfOk c.send_planned.result (λ r. r.0.short ≡ true → IsShortOf g.P.Payload.may_refuse h k ⊎ IsShortOf g.P.Payload.may_refuse h Ram)) c.kind_of.ensures.exact c.send_planned.ensures.short

pub returns-in-Ok-clause-enough : goal.returns-in-Ok-clause-enough
returns-in-Ok-clause-enough g c =
    let h = g.P.Payload.home_seen c.args.home.now in
    subst (λ (k : Kind). IfOk c.send_planned.result (λ r. r.1 ≡ Done → (¬ (IsShort h k 1)) × (¬ (IsShort h Ram 1)))) c.kind_of.ensures.exact c.send_planned.ensures.enough

pub returns-in-Err-clause-state : goal.returns-in-Err-clause-state
returns-in-Err-clause-state g c =
    let s = state_of g.P.Payload.seen c.args.self.now in
    by_call s c.args.conn c.args.ip c.args.port c.args.given.now c.data_of-octets.result.now (length c.data_of-octets.result.now) (Err c.in-Err.fault)
    (λ (step : Bool → Outcome). s ≡ (step c.nothing.result.short).state)
    c.data_of-octets.ensures refl (sym c.in-Err.is ∙ c.plan_send.ensures.exact) (fault_told s c.data_of-octets.result.now c.in-Err.fault c.nothing.result c.nothing.ensures).state

pub returns-in-Err-clause-told : goal.returns-in-Err-clause-told
returns-in-Err-clause-told g c =
    let s = state_of g.P.Payload.seen c.args.self.now in
    by_call s c.args.conn c.args.ip c.args.port c.args.given.now c.data_of-octets.result.now (length c.data_of-octets.result.now) (Err c.in-Err.fault)
    (λ (step : Bool → Outcome). c.nothing.result ≡ record { posts = []; frames = (step c.nothing.result.short).frames; short = (step c.nothing.result.short).short })
    c.data_of-octets.ensures refl (sym c.in-Err.is ∙ c.plan_send.ensures.exact) (fault_told s c.data_of-octets.result.now c.in-Err.fault c.nothing.result c.nothing.ensures).told

pub returns-in-Err-clause-reply : goal.returns-in-Err-clause-reply
returns-in-Err-clause-reply g c =
    let s = state_of g.P.Payload.seen c.args.self.now in
    by_call s c.args.conn c.args.ip c.args.port c.args.given.now c.data_of-octets.result.now (length c.data_of-octets.result.now) (Err c.in-Err.fault)
    (λ (step : Bool → Outcome). Fail c.in-Err.fault ≡ (step c.nothing.result.short).reply)
    c.data_of-octets.ensures refl (sym c.in-Err.is ∙ c.plan_send.ensures.exact) (fault_told s c.data_of-octets.result.now c.in-Err.fault c.nothing.result c.nothing.ensures).reply

pub returns-in-Err-clause-moves : goal.returns-in-Err-clause-moves
returns-in-Err-clause-moves g c =
    let h = g.P.Payload.home_seen c.args.home.now in
    let t : Total = total g.P.Payload.seen h.pools.family (held_in c.args.self.now) in
    Moves-same h t t (IsSameTotal-self t)
