use Rattle.std.proofs.Common.{◌≡◌, true, is_some, sym, ◌∙◌, ap, rules}
use Rattle.lw_base.specs.declared.errors.Err.TheVariants.{Conn as NoConn}
use Rattle.lw_events.specs.declared.event.Reply.{Reply}
use Rattle.lw_conn.specs.Connections.{connection}
use Rattle.lw_udp.specs.Ends.{Table as UdpTable, end_of}
use Rattle.lw_udp.specs.Ports.{answer_of, bind as udp_bind}
use Rattle.lw_api_msg.specs.Endpoints.{Table, bind, by_udp, refused, reply_of}
use Rattle.lw_api_msg.proofs.EndLaws.{bound_ends, by_udp_is, live_is}
use Rattle.lw_api_msg.proofs.endpoints.Endpoints.bind.Goals as goal

pub invariant_of-self : goal.invariant_of-self
invariant_of-self c = λ n.
    ap (λ (t : UdpTable). is_some (end_of t.ends n)) c.bind.ensures.table
    ∙ bound_ends c.self.inside.udp c.args.conn c.args.own c.args.ip c.args.port n
    ∙ c.self.invariant n

pub returns : goal.returns
returns c =
    let e : Table = record { udp = c.self.inside.udp; conns = c.self.inside.conns; fds = c.self.inside.fds; vars = c.self.inside.vars; signals = c.self.inside.signals } in
    let r = udp_bind e.udp c.args.conn c.args.own c.args.ip c.args.port in
    let live : is_some (connection e.conns c.args.conn) ≡ true = search rules in
    ap (λ (a : Reply). (a, record e { udp = c.bind.new.self })) (c.reply_of.ensures ∙ ap reply_of c.bind.ensures.answer)
    ∙ ap (λ (t : UdpTable). (reply_of (answer_of r), record e { udp = t })) c.bind.ensures.table
    ∙ by_udp_is e r
    ∙ sym (live_is (connection e.conns c.args.conn) (by_udp e r) (refused e NoConn) live)
    ∙ ap (λ (t : Table). bind c.args.own t c.args.conn c.args.ip c.args.port) c.self.view_is
