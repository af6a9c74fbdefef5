use Rattle.std.proofs.Common.{ap}
use Rattle.lw_input.specs.Input.{Brought, brought, reply_to, udp_input}
use Rattle.lw_input.proofs.InputLaws.{brought_other, brought_udp, sends-as, sends-by}
use Rattle.lw_input.proofs.input.ip_input.Goals as goal

pub returns-then-head-eq-UDP-clause-exact : goal.returns-then-head-eq-UDP-clause-exact
returns-then-head-eq-UDP-clause-exact g c =
    let net = c.args.netif.now in let h = c.args.head.now in let header = c.args.header.now in let body = c.args.body.now in
    let ends = c.args.endpoints.now.udp.ends in
    sends-as c.udp_input.result net c.args.table.now c.args.plan.now c.udp_input.new.plan h.src (udp_input net ends h header body).message (brought net ends h header body).message
    (ap (λ (b : Brought). b.message) (brought_udp net ends h header body c.if-head-eq-UDP.true)) c.udp_input.ensures.exact

pub returns-clause-exact : goal.returns-clause-exact
returns-clause-exact g c =
    let net = c.args.netif.now in let h = c.args.head.now in let header = c.args.header.now in let body = c.args.body.now in
    let ends = c.args.endpoints.now.udp.ends in
    sends-by net c.args.table.now c.args.plan.now c.reply.new.plan h.src (reply_to net h header body) (brought net ends h header body).message
    (ap (λ (b : Brought). b.message) (brought_other net ends h header body c.if-head-eq-UDP.false)) c.in_ok-reply.ensures.exact
