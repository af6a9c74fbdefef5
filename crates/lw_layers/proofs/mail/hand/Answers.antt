use Rattle.std.proofs.Common.{◌+◌, []}
use Rattle.lw_layers.proofs.KeepLaws.{cut_moves}
use Rattle.lw_layers.proofs.PostLaws.{handed_by}
use Rattle.lw_layers.proofs.mail.hand.Goals as goal

pub returns-clause-handed : goal.returns-clause-handed
returns-clause-handed g c =
    let h = g.P.Payload.home_seen c.args.home.now in
    let k = g.P.Payload.home_seen c.cut_to.new.home in
    handed_by g.P.Payload.seen h k c.args.payload c.cut_to.new.payload c.args.post (g.B.Boxes.seen c.args.boxes.now) (g.B.Boxes.seen c.post.new.self) c.cut_to.ensures
    (cut_moves g.P.Payload.seen h.pools.family h k c.args.payload c.cut_to.new.payload [] c.args.post.place (c.args.post.place + c.args.post.count) c.cut_to.ensures)
    c.post.ensures.posted
