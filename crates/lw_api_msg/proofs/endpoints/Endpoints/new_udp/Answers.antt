use Rattle.std.proofs.Common.{◌≡◌, ◌&&◌, nat_lt, length, is_some, List, Option, sym, ◌∙◌, ap}
use Rattle.lw_events.specs.declared.event.Proto.TheVariants.{Udp}
use Rattle.lw_conn.specs.declared.connections.Connection.{Connection}
use Rattle.lw_conn.specs.Connections.{connection, fresh, live_count}
use Rattle.lw_udp.specs.declared.ends.UdpEnd.{UdpEnd}
use Rattle.lw_udp.specs.Ends.{Table as UdpTable, end_of, removed}
use Rattle.lw_api_msg.proofs.EndLaws.{both_added, made_and_removed, none_yet}
use Rattle.lw_api_msg.proofs.PlaceLaws.{next_is}
use Rattle.lw_api_msg.proofs.endpoints.Endpoints.new_udp.Goals as goal

pub invariant_of-self-in-Err : goal.invariant_of-self-in-Err
invariant_of-self-in-Err c = λ n.
    let next = next_is (nat_lt (live_count c.self.inside.conns) c.args.limits.now.live && nat_lt (length c.self.inside.conns) 4096) c.self.inside.conns c.in-Some.conn (sym c.next.ensures ∙ c.in-Some.is) in
    let none = none_yet c.self.inside.udp.ends c.self.inside.conns c.self.invariant c.in-Some.conn next in
    let back : c.remove.new.self ≡ c.self.inside.udp =
    c.remove.ensures ∙ ap (λ (u : UdpTable). removed u c.in-Some.conn) c.in_ok-add.ensures.table
    ∙ ap (λ (es : List UdpEnd). record c.self.inside.udp { ends = es }) (made_and_removed c.self.inside.udp.ends c.in-Some.conn none) in
    ap (λ (t : UdpTable). is_some (end_of t.ends n)) back
    ∙ c.self.invariant n
    ∙ sym (ap (λ (cs : List (Option Connection)). is_some (connection cs n)) c.in-Err.ensures.err)

pub returns-in-Err-clause-err : goal.returns-in-Err-clause-err
returns-in-Err-clause-err c =
    let next = next_is (nat_lt (live_count c.self.inside.conns) c.args.limits.now.live && nat_lt (length c.self.inside.conns) 4096) c.self.inside.conns c.in-Some.conn (sym c.next.ensures ∙ c.in-Some.is) in
    let none = none_yet c.self.inside.udp.ends c.self.inside.conns c.self.invariant c.in-Some.conn next in
    let back : c.remove.new.self ≡ c.self.inside.udp =
    c.remove.ensures ∙ ap (λ (u : UdpTable). removed u c.in-Some.conn) c.in_ok-add.ensures.table
    ∙ ap (λ (es : List UdpEnd). record c.self.inside.udp { ends = es }) (made_and_removed c.self.inside.udp.ends c.in-Some.conn none) in
    let conns = c.in-Err.ensures.err in
    search (back, conns, c.self.view_is)

pub invariant_of-self-in_default-add : goal.invariant_of-self-in_default-add
invariant_of-self-in_default-add c = λ n.
    let next = next_is (nat_lt (live_count c.self.inside.conns) c.args.limits.now.live && nat_lt (length c.self.inside.conns) 4096) c.self.inside.conns c.in-Some.conn (sym c.next.ensures ∙ c.in-Some.is) in
    ap (λ (t : UdpTable). is_some (end_of t.ends n)) c.in_ok-add.ensures.table
    ∙ both_added c.self.inside.udp.ends c.self.inside.conns (fresh Udp) c.self.invariant c.in-Some.conn next n
    ∙ sym (ap (λ (cs : List (Option Connection)). is_some (connection cs n)) c.in_default-add.ensures.ok)
