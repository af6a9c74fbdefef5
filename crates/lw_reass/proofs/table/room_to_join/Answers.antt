use Rattle.std.proofs.Common.{refl, arith}
use Rattle.lw_runs.proofs.Stands.{same-refl}
use Rattle.lw_reass.proofs.Rooms.{set_datagrams, set_rooms, set_same, set_each, stand_at, ok_joins}
use Rattle.lw_reass.proofs.table.room_to_join.Goals as goal

pub returns-then-place-len-clause-datagrams : goal.returns-then-place-len-clause-datagrams
returns-then-place-len-clause-datagrams g c =
    set_datagrams c.args.opens.now.items c.args.place c.index_mut-datagram.result.now _ c.room_to_join.new.self c.index_mut-datagram.ensures.value refl c.room_to_join.ensures.octets

pub returns-then-place-len-clause-bodies : goal.returns-then-place-len-clause-bodies
returns-then-place-len-clause-bodies g c =
    set_same g.P.Payload.seen c.args.opens.now.items c.args.place c.index_mut-datagram.result.now _ (omega arith) c.index_mut-datagram.ensures.value c.room_to_join.ensures.bodies

pub returns-then-place-len-clause-rooms : goal.returns-then-place-len-clause-rooms
returns-then-place-len-clause-rooms g c =
    set_rooms c.args.opens.now.items c.args.place c.index_mut-datagram.result.now _ c.room_to_join.new.self c.index_mut-datagram.ensures.value refl c.room_to_join.ensures.room

pub returns-then-place-len-clause-each : goal.returns-then-place-len-clause-each
returns-then-place-len-clause-each g c =
    set_each g.P.Payload.seen c.args.opens.now.items c.args.place c.index_mut-datagram.result.now _ c.room_to_join.new.self (omega arith) c.index_mut-datagram.ensures.value refl c.room_to_join.ensures.octets
    (stand_at g.P.Payload.seen c.args.opens.now.items c.args.place c.index_mut-datagram.result.now c.room_to_join.new.self.octets c.room_to_join.new.self.bodies (omega arith) c.index_mut-datagram.ensures.value c.room_to_join.ensures.octets c.room_to_join.ensures.bodies c.requires.each)
    c.requires.each

pub returns-then-place-len-clause-ok : goal.returns-then-place-len-clause-ok
returns-then-place-len-clause-ok g c =
    ok_joins g.P.Payload.seen c.args.opens.now.items c.args.place _ c.room_to_join.new.self.bodies (g.P.Payload.seen c.room_to_join.new.body) c.room_to_join.result (omega arith) refl c.room_to_join.ensures.ok

pub returns-clause-bodies : goal.returns-clause-bodies
returns-clause-bodies g c = same-refl g.P.Payload.seen _
