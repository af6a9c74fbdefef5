use Rattle.std.proofs.Common.{true, refl, sym, ap}
use Rattle.lw_events.specs.declared.entry.Post.TheVariants.{Full}
use Rattle.lw_conn.specs.Connections.{Connections}
use Rattle.lw_layers.specs.declared.mail.Mail.{Mail}
use Rattle.lw_layers.specs.declared.mail.Offer.{Offer}
use Rattle.lw_layers.specs.Layers.{delivery_by}
use Rattle.lw_layers.specs.Posts.{post_of}
use Rattle.lw_layers.proofs.PostLaws.{one_offered}
use Rattle.lw_layers.proofs.layers.Layers.offer.Goals as goal

pub returns-then-has_place-clause-offers : goal.returns-then-has_place-clause-offers
returns-then-has_place-clause-offers g c =
    let cs : Connections = c.args.self.now.endpoints.conns in
    let m : Mail = c.in-Some.mail in
    one_offered g.B.Boxes.offers c.args.boxes.now c.has_place.new.self c.taken.result.posts (post_of cs (delivery_by m) true) m.post.conn c.has_place.result
    (ap (λ (o : Offer). o.posts) (c.taken.ensures cs c.posted_to-ticket.ensures)) refl (sym c.if-has_place.true) c.has_place.ensures.offers

pub returns-else-has_place-clause-offers : goal.returns-else-has_place-clause-offers
returns-else-has_place-clause-offers g c =
    let m : Mail = c.in-Some.mail in
    one_offered g.B.Boxes.offers c.args.boxes.now c.has_place.new.self c.refused.result.posts (Full m.post.conn) m.post.conn c.has_place.result
    (ap (λ (o : Offer). o.posts) c.refused.ensures) refl (sym c.if-has_place.false) c.has_place.ensures.offers
