use Rattle.std.proofs.Common.{◌∙◌, sym}
use Rattle.lw_input.specs.Input.{port_answer, udp_input}
use Rattle.lw_input.proofs.InputLaws.{sends-by, unmatched}
use Rattle.lw_input.proofs.input.udp_input.Goals as goal

pub returns-in_default-best-clause-exact : goal.returns-in_default-best-clause-exact
returns-in_default-best-clause-exact g c =
    let net = c.args.netif.now in let h = c.args.head.now in let header = c.args.header.now in let body = c.args.body.now in
    let ends = c.args.endpoints.now.udp.ends in
    sends-by net c.args.table.now c.args.plan.now c.refuse_port.new.plan h.src (port_answer net h header body) (udp_input net ends h header body).message
    (unmatched net ends h header body (c.in-Ok.udp, c.in-Ok.place) c.best.result (sym c.read_udp.ensures.exact ∙ c.in-Ok.is) c.best.ensures.best c.in_default-best.is) c.in_ok-refuse_port.ensures.exact
