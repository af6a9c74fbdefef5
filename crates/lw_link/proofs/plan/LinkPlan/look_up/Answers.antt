use Rattle.std.proofs.Common.{◌++◌, ◌∷◌, ◌∙◌, ℕ, List, [], Some, ap, refl}
use Rattle.lw_arp.specs.Neighbours.{looked_up}
use Rattle.lw_link.specs.declared.plan.LinkPlan.{LinkPlan}
use Rattle.lw_link.specs.Plans.{known}
use Rattle.lw_link.proofs.PlanLaws.{plan_looked_up}
use Rattle.lw_link.proofs.plan.LinkPlan.look_up.Goals as goal

pub returns-clause-exact : goal.returns-clause-exact
returns-clause-exact g c = λ l m over empty plans.
    let hop = c.args.hop in
    let p : LinkPlan = c.args.self.now in
    let q : LinkPlan = record { asked = c.push-2.new.self; keys = Some c.in_ok-keys.keys; frames = c.push.new.self; waits = p.waits; next_id = p.next_id } in
    plan_looked_up c.args.net.now c.args.table.now p q c.in_ok-keys.keys l m hop c.in_ok-push-2.ensures.items refl
    (c.in_ok-keys.ensures ∙ ap (λ k. looked_up (known k c.args.table.now) hop) c.take.ensures.value)
    refl refl (c.in_ok-push.ensures.items ∙ ap (λ (f : List ℕ). p.frames.items ++ f ∷ []) c.in_ok-request.ensures)
    c.requires.at_hop over empty plans
