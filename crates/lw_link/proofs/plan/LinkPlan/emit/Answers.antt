use Rattle.std.proofs.Common.{◌≡◌, ◌+◌, ◌%◌, ◌^◌, Ok, refl, rules}
use Rattle.lw_base.specs.declared.heads.IpHead.{IpHead}
use Rattle.lw_netif.specs.Route.{route_of}
use Rattle.lw_link.specs.declared.plan.LinkPlan.{LinkPlan}
use Rattle.lw_link.proofs.PlanLaws.{emit_by, on_ok}
use Rattle.lw_link.proofs.plan.LinkPlan.emit.Goals as goal

pub returns-clause-exact : goal.returns-clause-exact
returns-clause-exact g c =
    let p : LinkPlan = c.args.self.now in
    let h : IpHead = c.args.head.now in
    let r : LinkPlan = record p { next_id = (p.next_id + 1) % 2 ^ 16 } in
    let k : IpHead = record h { id = p.next_id } in
    let route : route_of c.args.netif.now h.dst ≡ Ok c.in-Ok.hop = search rules in
    on_ok c.to_hop.result
    (λ goes l m over plans.
    emit_by c.args.netif.now c.args.table.now p r c.to_hop.new.self l m c.args.may_wait h k c.args.body.now c.in-Ok.hop route refl refl refl refl refl refl goes over plans)
    (rw c.net.ensures at c.to_hop.ensures.exact)
