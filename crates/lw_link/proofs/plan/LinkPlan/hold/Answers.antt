use Rattle.std.proofs.Common.{◌≡◌, ◌∙◌, Bool, true, Some, IfSome, refl, subst, sym, rules}
use Rattle.lw_arp.specs.declared.entries.EntryState.TheVariants.{Pending}
use Rattle.lw_arp.specs.Neighbours.{held, state_of}
use Rattle.lw_link.specs.declared.plan.LinkPlan.{LinkPlan}
use Rattle.lw_link.specs.Plans.{Plans}
use Rattle.lw_link.specs.Way.{packets, to_hop}
use Rattle.lw_link.proofs.PlanLaws.{plan_holds}
use Rattle.lw_link.proofs.plan.LinkPlan.hold.Goals as goal

pub returns-clause-exact : goal.returns-clause-exact
returns-clause-exact c = λ l m pending plans.
    let hop = c.args.hop in
    let p : LinkPlan = c.args.self.now in
    let q : LinkPlan = record { asked = p.asked; keys = c.hold_key.result; frames = p.frames; waits = Some (hop, c.in_ok-packet.packet); next_id = p.next_id } in
    let ps = packets c.args.head.now c.args.body.now in
    let may : c.args.may_wait ≡ true = search rules in
    let holds = subst (λ o. IfSome o (λ k. state_of k hop ≡ Pending → c.hold_key.result ≡ Some (held k hop tt))) c.take.ensures.value c.hold_key.ensures.held in
    subst (λ (b : Bool). Plans q l (to_hop b m hop ps Pending)) (sym may)
    (plan_holds p q l m hop ps c.in_ok-packet.packet c.in_ok-packet.ensures.last refl (λ none. c.hold_key.ensures.none (c.take.ensures.value ∙ none)) holds refl refl refl
    c.requires.at_hop pending plans)
