use Rattle.std.proofs.Common.{if◌then◌else◌}
use Rattle.lw_udp.specs.Ends.{is_of, unbound, with_remote}
use Rattle.lw_udp.specs.declared.ends.UdpEnd.{UdpEnd}
use Rattle.lw_udp.proofs.ListLaws.{mapped_more}
use Rattle.lw_udp.proofs.ends.set_remote.Goals as goal

pub loop-end-preserved : goal.loop-end-preserved
loop-end-preserved c =
    let f : UdpEnd → UdpEnd = λ e. if is_of c.args.conn e then with_remote c.args.to e else e in
    mapped_more f c.args.ends.now c.loop-end.ends c.loop-end.end-index _ (unbound 0) c.loop-end-test.true c.connected_at.ensures c.loop-end.invariant
