use Rattle.std.proofs.Common.{◌∙◌, refl, sym}
use Rattle.lw_link.specs.declared.plan.LinkPlan.{LinkPlan}
use Rattle.lw_link.specs.Way.{packets}
use Rattle.lw_link.proofs.PlanLaws.{hop_stable, hop_pending, hop_empty, on_ok}
use Rattle.lw_link.proofs.plan.LinkPlan.to_hop.Goals as goal

pub returns-in-Stable-clause-exact : goal.returns-in-Stable-clause-exact
returns-in-Stable-clause-exact g c =
    let p : LinkPlan = c.args.self.now in
    let q : LinkPlan = record { asked = p.asked; keys = p.keys; frames = c.push_frames.new.frames; waits = p.waits; next_id = p.next_id } in
    on_ok c.push_frames.result
    (λ frames l m over plans.
    hop_stable c.args.net.now c.args.table.now p q l m c.args.may_wait c.args.hop c.in-Stable.mac (packets c.args.head.now c.args.body.now) (sym c.state_of.ensures ∙ c.in-Stable.is)
    refl refl refl refl frames over plans)
    c.push_frames.ensures

pub returns-in-Pending-clause-exact : goal.returns-in-Pending-clause-exact
returns-in-Pending-clause-exact g c =
    on_ok c.hold.result
    (λ holds l m over plans.
    hop_pending c.args.net.now c.args.table.now c.args.self.now c.hold.new.self l m c.args.may_wait c.args.hop (packets c.args.head.now c.args.body.now) (sym c.state_of.ensures ∙ c.in-Pending.is) holds over plans)
    c.hold.ensures.exact

pub returns-in_ok-look_up-in-Empty-clause-exact : goal.returns-in_ok-look_up-in-Empty-clause-exact
returns-in_ok-look_up-in-Empty-clause-exact g c =
    on_ok c.hold-in-Empty.result
    (λ holds l m over plans.
    hop_empty c.args.net.now c.args.table.now c.args.self.now c.look_up.new.self c.hold-in-Empty.new.self l m c.args.may_wait c.args.hop (packets c.args.head.now c.args.body.now) (sym c.state_of.ensures ∙ c.in-Empty.is)
    c.in_ok-look_up-in-Empty.ensures.exact holds over plans)
    c.hold-in-Empty.ensures.exact
