use Rattle.std.proofs.Common.{◌≡◌, length, refl}
use Rattle.lw_link.specs.Way.{packet}
use Rattle.lw_link.proofs.FrameLaws.{last, last_packet_fits, last_packet_of}
use Rattle.lw_link.proofs.frames.last_packet.Goals as goal

pub returns-clause-last : goal.returns-clause-last
returns-clause-last c =
    let is : c.from_vec.result ≡ packet c.args.body.now (last c.args.head.now (length c.args.body.now)) =
    rw (c.from_vec.ensures, c.in_ok-write_piece.ensures, c.in_ok-packet.ensures.items, c.last_piece-piece.ensures, c.len.ensures) refl in
    last_packet_of c.args.head.now c.args.body.now c.from_vec.result is

pub returns-clause-fits : goal.returns-clause-fits
returns-clause-fits c =
    let is : c.from_vec.result ≡ packet c.args.body.now (last c.args.head.now (length c.args.body.now)) =
    rw (c.from_vec.ensures, c.in_ok-write_piece.ensures, c.in_ok-packet.ensures.items, c.last_piece-piece.ensures, c.len.ensures) refl in
    last_packet_fits c.args.head.now c.args.body.now c.from_vec.result is
