use Rattle.std.proofs.Common.{is_some, List, Option, sym, ◌∙◌, ap, rules}
use Rattle.lw_conn.specs.declared.connections.Connection.{Connection}
use Rattle.lw_conn.specs.Connections.{connection}
use Rattle.lw_udp.specs.Ends.{Table as UdpTable, end_of}
use Rattle.lw_api_msg.proofs.EndLaws.{both_removed}
use Rattle.lw_api_msg.proofs.PlaceLaws.{numbered}
use Rattle.lw_api_msg.proofs.endpoints.Endpoints.close.Goals as goal

pub invariant_of-self : goal.invariant_of-self
invariant_of-self c = λ n.
    ap (λ (t : UdpTable). is_some (end_of t.ends n)) c.remove.ensures
    ∙ both_removed c.self.inside.udp.ends c.self.inside.conns c.self.invariant c.args.conn (numbered c.self.inside.conns c.args.conn (search rules)) n
    ∙ sym (ap (λ (cs : List (Option Connection)). is_some (connection cs n)) c.close.ensures)
