use Rattle.std.proofs.Common.{sym, subst}
use Rattle.lw_api_msg.specs.Endpoints.{Table}
use Rattle.lw_boxes.specs.declared.item.Item.TheVariants.{Datagram}
use Rattle.lw_layers.specs.Boxes.{AreBoxesOf}
use Rattle.lw_layers.proofs.PostLaws.{one_posted, rest_live}
use Rattle.lw_layers.proofs.SameBoxes.{posted_box}
use Rattle.lw_layers.proofs.layers.Layers.deliver.Goals as goal

pub returns-clause-posting : goal.returns-clause-posting
returns-clause-posting g c =
    one_posted g.P.Payload.seen (g.P.Payload.home_seen c.args.home.now) (g.P.Payload.home_seen c.hand.new.home) c.args.self.now.endpoints.conns c.args.rest c.in-Some-rest.rest c.args.offer.now c.in-Some.post
    (g.B.Boxes.seen c.args.boxes.now) (g.B.Boxes.seen c.hand.new.boxes) c.in-Some-rest.is c.in-Some.is c.requires.offer c.requires.boxes c.hand.ensures.handed

pub returns-clause-boxes : goal.returns-clause-boxes
returns-clause-boxes g c =
    subst (λ (e : Table). AreBoxesOf e.conns (g.B.Boxes.seen c.hand.new.boxes)) (sym c.count_post.ensures)
    (posted_box c.args.self.now.endpoints.conns (g.B.Boxes.seen c.args.boxes.now) (g.B.Boxes.seen c.hand.new.boxes) c.in-Some.post.conn (Datagram c.in-Some.post.ip c.in-Some.post.port c.hand.ensures.handed.item)
    (rest_live g.P.Payload.seen c.args.self.now.endpoints.conns c.args.rest c.args.offer.now c.in-Some.post c.requires.offer c.in-Some.is) c.requires.boxes c.hand.ensures.handed.posted)
