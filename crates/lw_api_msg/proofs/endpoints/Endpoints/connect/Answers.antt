use Rattle.std.proofs.Common.{is_some, ◌∙◌, ap}
use Rattle.lw_udp.specs.Ends.{Table as UdpTable, end_of}
use Rattle.lw_api_msg.proofs.EndLaws.{connected_ends}
use Rattle.lw_api_msg.proofs.endpoints.Endpoints.connect.Goals as goal

pub invariant_of-self : goal.invariant_of-self
invariant_of-self c = λ n.
    ap (λ (t : UdpTable). is_some (end_of t.ends n)) c.connect.ensures.table
    ∙ connected_ends c.self.inside.udp c.args.conn (c.args.ip, c.args.port) n
    ∙ c.self.invariant n
