use Rattle.std.proofs.Common.{refl, arith}
use Rattle.lw_reass.proofs.Rooms.{set_datagrams, set_kept, ok_room}
use Rattle.lw_reass.proofs.table.room_in.Goals as goal

pub returns-then-place-len-clause-datagrams : goal.returns-then-place-len-clause-datagrams
returns-then-place-len-clause-datagrams g c =
    set_datagrams c.args.opens.now.items c.args.place c.index_mut-datagram.result.now _ c.room.new.self c.index_mut-datagram.ensures.value refl c.room.ensures.octets

pub returns-then-place-len-clause-kept : goal.returns-then-place-len-clause-kept
returns-then-place-len-clause-kept g c =
    set_kept c.args.opens.now.items c.args.place c.index_mut-datagram.result.now _ c.room.new.self c.index_mut-datagram.ensures.value refl c.room.ensures.bodies

pub returns-then-place-len-clause-ok : goal.returns-then-place-len-clause-ok
returns-then-place-len-clause-ok g c =
    ok_room c.args.opens.now.items c.args.place _ _ c.room.new.self.room c.room.result (omega arith) refl c.room.ensures.ok
