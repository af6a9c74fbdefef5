use Rattle.std.proofs.Common.{rules, ◌≡◌, ℕ, ◌+◌, length, slice_get, slice_set, Some, ap, sym, refl, ◌∙◌, subst}
use Rattle.std.specs.Arc.{arc_value}
use Rattle.std.proofs.lemmas.Option.{slice_get_read}
use Rattle.hist_lock.specs.Callers.{Begun}
use Rattle.tcpip_mbox.specs.Tokens.{Named}
use Rattle.reply_box.specs.Places.{Named as PlaceNamed, Side}
use Rattle.lw_tcpip.specs.declared.message.Service.{Service}
use Rattle.lw_tcpip.specs.declared.reply.LineKey.{LineKey}
use Rattle.lw_tcpip.specs.Replies.{Answers}
use Rattle.lw_tcpip.specs.Tokens.{SeatSeen, answered}
use Rattle.lw_tcpip.proofs.Lists.{some_same}
use Rattle.lw_tcpip.proofs.desk.give.Goals as goal

pub give-requires-clause-own : goal.give-requires-clause-own
give-requires-clause-own g c = let r = c.index-seats-line.result in let get = slice_get_read c.args.seats.now (length c.args.seats.now) c.args.line r refl c.requires.line c.index-seats-line.is in let own = (c.requires.seat r get).0 in
    let from : c.deref.result.now ≡ arc_value c.seat.inside.place = search rules in let box : c.deref.result.now ≡ r.place = from ∙ ap (λ s. s.place) (c.seat.view_is ∙ sym c.index-seats-line.is) in let right : c.seat.inside.pledge ≡ r.pledge = ap (λ s. s.pledge) (c.seat.view_is ∙ sym c.index-seats-line.is) in
    (ap (λ p. p.place) right ∙ (own.0 ∙ sym (ap (λ b. b.place) box)), ap (λ p. p.key) right ∙ (own.1 ∙ sym (ap (λ b. Some b.key) box)))

pub give-requires-clause-answers : goal.give-requires-clause-answers
give-requires-clause-answers g c = let r = c.index-seats-line.result in let get = slice_get_read c.args.seats.now (length c.args.seats.now) c.args.line r refl c.requires.line c.index-seats-line.is in let answers = (c.requires.seat r get).1 in
    let from : c.deref.result.now ≡ arc_value c.seat.inside.place = search rules in let box : c.deref.result.now ≡ r.place = from ∙ ap (λ s. s.place) (c.seat.view_is ∙ sym c.index-seats-line.is) in let right : c.seat.inside.pledge ≡ r.pledge = ap (λ s. s.pledge) (c.seat.view_is ∙ sym c.index-seats-line.is) in
    subst (λ (k : LineKey (Named (Service (Begun g.row.O.Denot)))). Answers g.O.Serial.state g.O.Serial.tag g.O.Serial.by g.O.Serial.same g.O.Serial.tells g.O.Serial.steps k c.seat.inside.pledge.count c.args.reply) (sym (ap (λ b. b.key) box))
    (subst (λ (n : ℕ). Answers g.O.Serial.state g.O.Serial.tag g.O.Serial.by g.O.Serial.same g.O.Serial.tells g.O.Serial.steps r.place.key n c.args.reply) (sym (ap (λ p. p.count) right)) answers)

pub returns : goal.returns
returns g c = λ s found. let r = c.index-seats-line.result in let get = slice_get_read c.args.seats.now (length c.args.seats.now) c.args.line r refl c.requires.line c.index-seats-line.is in let same : r ≡ s = some_same r s (sym get ∙ found) in
    ap (λ (t : SeatSeen (LineKey (Named (Service (Begun g.row.O.Denot))))). slice_set c.args.seats.now c.args.line t)
    (ap (λ (p : Side (LineKey (Named (Service (Begun g.row.O.Denot))))). let t : SeatSeen (LineKey (Named (Service (Begun g.row.O.Denot)))) = record { place = arc_value c.seat.inside.place; pledge = p; left = c.seat.inside.left } in t) c.give.ensures.given
    ∙ ap (λ (t : SeatSeen (LineKey (Named (Service (Begun g.row.O.Denot))))). answered t) (c.seat.view_is ∙ (sym c.index-seats-line.is ∙ same)))
