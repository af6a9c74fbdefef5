use Rattle.std.proofs.Common.{◌∙◌, Some, ap}
use Rattle.lw_base.specs.declared.addresses.Net.{Net}
use Rattle.lw_icmp.specs.Messages.{unreachable}
use Rattle.lw_input.specs.Input.{port_answer}
use Rattle.lw_input.proofs.InputLaws.{answers_port, sends-as}
use Rattle.lw_input.proofs.input.refuse_port.Goals as goal

pub returns-clause-exact : goal.returns-clause-exact
returns-clause-exact g c =
    let net = c.args.netif.now in let h = c.args.head.now in let header = c.args.header.now in let body = c.args.body.now in
    sends-as c.refuse.result net c.args.table.now c.args.plan.now c.refuse.new.plan h.src (Some (unreachable 3 header body)) (port_answer net h header body)
    (answers_port net h header body (c.if-head-net.false ∙ ap (λ (n : Net). n.ip.0) c.net.ensures)) c.refuse.ensures.exact
