use Rattle.std.proofs.Common.{is_some, ◌∙◌, ap}
use Rattle.lw_udp.specs.Ends.{Table as UdpTable, end_of}
use Rattle.lw_api_msg.proofs.EndLaws.{ephemeral_ends}
use Rattle.lw_api_msg.proofs.endpoints.Endpoints.apply_send.Goals as goal

pub invariant_of-self : goal.invariant_of-self
invariant_of-self c = λ n.
    ap (λ (t : UdpTable). is_some (end_of t.ends n)) c.bind_ephemeral.ensures
    ∙ ephemeral_ends c.self.inside.udp c.args.plan.now.conn c.in-Fresh.port n
    ∙ c.self.invariant n
