use Rattle.std.proofs.Common.{◌∙◌, Some, ap}
use Rattle.lw_base.specs.declared.addresses.Net.{Net}
use Rattle.lw_icmp.specs.Messages.{echo_reply, unreachable}
use Rattle.lw_input.specs.Input.{reply_to}
use Rattle.lw_input.proofs.InputLaws.{answers_icmp, answers_other, sends-as}
use Rattle.lw_input.proofs.input.reply.Goals as goal

pub returns-in-1-clause-exact : goal.returns-in-1-clause-exact
returns-in-1-clause-exact g c =
    let net = c.args.netif.now in let h = c.args.head.now in let header = c.args.header.now in let body = c.args.body.now in
    sends-as c.echo_input.result net c.args.table.now c.args.plan.now c.echo_input.new.plan h.src (echo_reply body) (reply_to net h header body)
    (answers_icmp net h header body (c.if-head-net.false ∙ ap (λ (n : Net). n.ip.0) c.net.ensures) c.in-1.is) c.echo_input.ensures.exact

pub returns-in_default-clause-exact : goal.returns-in_default-clause-exact
returns-in_default-clause-exact g c =
    let net = c.args.netif.now in let h = c.args.head.now in let header = c.args.header.now in let body = c.args.body.now in
    let rest = c.in_default.in_default-own.rest in
    sends-as c.refuse.result net c.args.table.now c.args.plan.now c.refuse.new.plan h.src (Some (unreachable 2 header body)) (reply_to net h header body)
    (answers_other net h header body (c.if-head-net.false ∙ ap (λ (n : Net). n.ip.0) c.net.ensures) rest.0.1 rest.1) c.refuse.ensures.exact
