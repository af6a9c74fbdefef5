use Rattle.std.proofs.Common.{◌≡◌, ◌++◌, ℕ, List, true, false, IfErr, IfOk, refl, sym, ap, subst}
use Rattle.lw_payload.specs.Totals.{total, IsOwned}
use Rattle.lw_events.specs.declared.event.Event.{Event}
use Rattle.lw_events.specs.declared.event.Event.TheVariants.{Close, New, Stop, Tick}
use Rattle.lw_events.specs.declared.event.Proto.TheVariants.{Udp}
use Rattle.lw_events.specs.declared.entry.Entry.{Entry}
use Rattle.lw_events.specs.Events.{payloads_in, text_of, IsSameEvent}
use Rattle.lw_conn.specs.Connections.{Connections}
use Rattle.lw_api_msg.specs.Endpoints.{Table}
use Rattle.lw_layers.specs.Boxes.{AreBoxesOf}
use Rattle.lw_layers.specs.Claims.{IsEnoughFor, IsShortFor}
use Rattle.lw_layers.specs.History.{IsStep}
use Rattle.lw_layers.specs.Posts.{IsPosting}
use Rattle.lw_layers.specs.Sends.{kind_of}
use Rattle.lw_layers.proofs.BoxLaws.{keep_self}
use Rattle.lw_layers.proofs.PostLaws.{none_tried}
use Rattle.lw_layers.proofs.SameBoxes.{same_self}
use Rattle.lw_core.specs.Held.{held_by}
use Rattle.lw_core.proofs.RequestLaws.{asking_enough, asks_by, boxes_err, enough_by, is_answer, is_close, is_end, is_feed, is_make, is_send, is_sending, is_tick, quiet_ok, quiet_posting, same_core, same_err, same_event, sent_back, sent_enough, sent_offers, sent_posting, short_by, tick_posting}
use Rattle.lw_core.proofs.step.Core.step.Goals as goal

pub frame-requires-clause-owned : goal.frame-requires-clause-owned
frame-requires-clause-owned g c =
    subst (λ (e : Event g.row.P.Denot). IsOwned (g.P.Payload.home_seen c.args.home.now) (total g.P.Payload.seen (g.P.Payload.home_seen c.args.home.now).pools.family (payloads_in e ++ held_by c.args.self.now))) (is_feed g.P.Payload.seen c.args.event c.in-Feed.frame c.in-Feed.ensures) c.requires.owned

pub returns-in-Feed-clause-ok : goal.returns-in-Feed-clause-ok
returns-in-Feed-clause-ok g c =
    subst (λ (e : Event g.row.P.Denot). IfOk c.frame.result (λ r. IsStep c.args.self.now.state c.args.actor (text_of g.P.Payload.seen e) r.0 r.1 c.frame.new.self.state)) (sym (is_feed g.P.Payload.seen c.args.event c.in-Feed.frame c.in-Feed.ensures)) c.frame.ensures.ok

pub returns-in-Feed-clause-posting : goal.returns-in-Feed-clause-posting
returns-in-Feed-clause-posting g c =
    subst (λ (e : Event g.row.P.Denot). IfOk c.frame.result (λ r. IsPosting g.P.Payload.seen (g.P.Payload.home_seen c.args.home.now) (g.P.Payload.home_seen c.frame.new.home) r.0.posts (g.B.Boxes.seen c.args.boxes.now) (g.B.Boxes.seen c.frame.new.boxes) (payloads_in e ++ held_by c.args.self.now) (held_by c.frame.new.self))) (sym (is_feed g.P.Payload.seen c.args.event c.in-Feed.frame c.in-Feed.ensures))
    c.frame.ensures.posting

pub returns-in-Feed-clause-short : goal.returns-in-Feed-clause-short
returns-in-Feed-clause-short g c =
    subst (λ (e : Event g.row.P.Denot). IfOk c.frame.result (λ r. r.0.short ≡ true → IsShortFor g.P.Payload.may_refuse c.args.home.now (g.P.Payload.home_seen c.args.home.now) e)) (sym (is_feed g.P.Payload.seen c.args.event c.in-Feed.frame c.in-Feed.ensures)) c.frame.ensures.short

pub returns-in-Feed-clause-enough : goal.returns-in-Feed-clause-enough
returns-in-Feed-clause-enough g c =
    subst (λ (e : Event g.row.P.Denot). IfOk c.frame.result (λ r. r.0.short ≡ false → IsEnoughFor (g.P.Payload.home_seen c.args.home.now) e r.1)) (sym (is_feed g.P.Payload.seen c.args.event c.in-Feed.frame c.in-Feed.ensures)) c.frame.ensures.enough

pub returns-in-Feed-clause-event : goal.returns-in-Feed-clause-event
returns-in-Feed-clause-event g c =
    subst (λ (e : Event g.row.P.Denot). IfErr c.frame.result (λ r. IsSameEvent g.P.Payload.seen e r.1)) (sym (is_feed g.P.Payload.seen c.args.event c.in-Feed.frame c.in-Feed.ensures)) c.frame.ensures.event

pub returns-in-Ok-clause-ok : goal.returns-in-Ok-clause-ok
returns-in-Ok-clause-ok g c =
    quiet_ok g.P.Payload.seen c.args.self.now c.make.new.self c.args.actor c.args.event (New Udp) c.in-Ok.made (is_make g.P.Payload.seen c.args.event c.in-Make.ensures) c.in-Ok.ensures.ok

pub returns-in-Ok-clause-posting : goal.returns-in-Ok-clause-posting
returns-in-Ok-clause-posting g c =
    quiet_posting g.P.Payload.seen (g.P.Payload.home_seen c.args.home.now) c.args.actor c.args.event (New Udp) c.in-Ok.made (g.B.Boxes.seen c.args.boxes.now) (g.B.Boxes.seen c.make.new.boxes) c.args.self.now c.make.new.self (is_make g.P.Payload.seen c.args.event c.in-Make.ensures) c.in-Ok.ensures.ok c.make.ensures.items

pub returns-in-Ok-clause-offers : goal.returns-in-Ok-clause-offers
returns-in-Ok-clause-offers g c =
    none_tried g.B.Boxes.offers c.args.boxes.now c.in-Ok.made.0.posts c.in-Ok.ensures.ok.posts

pub returns-in-Ok-clause-short : goal.returns-in-Ok-clause-short
returns-in-Ok-clause-short g c =
    short_by g.P.Payload.seen g.P.Payload.may_refuse c.args.home.now (g.P.Payload.home_seen c.args.home.now) c.args.event c.in-Ok.made.0.short c.in-Ok.ensures.ok.short

pub returns-in-Ok-clause-enough : goal.returns-in-Ok-clause-enough
returns-in-Ok-clause-enough g c =
    λ not. enough_by g.P.Payload.seen (g.P.Payload.home_seen c.args.home.now) c.args.event (New Udp) c.in-Ok.made.1 (is_make g.P.Payload.seen c.args.event c.in-Make.ensures) tt

pub returns-in-Err-clause-event : goal.returns-in-Err-clause-event
returns-in-Err-clause-event g c =
    same_event g.P.Payload.seen c.args.event (New Udp) (New Udp) (is_make g.P.Payload.seen c.args.event c.in-Make.ensures) refl refl

pub returns-in-Err-clause-err : goal.returns-in-Err-clause-err
returns-in-Err-clause-err g c =
    (same_core g.P.Payload.seen c.args.self.now c.make.new.self c.in-Err.ensures.err.0, refl)

pub tick-requires : goal.tick-requires
tick-requires g c = record {
  owned = subst (λ (ps : List g.row.P.Denot). IsOwned (g.P.Payload.home_seen c.args.home.now) (total g.P.Payload.seen (g.P.Payload.home_seen c.args.home.now).pools.family (ps ++ held_by c.args.self.now))) (is_tick g.P.Payload.seen c.args.event c.in-Tick.ensures).none c.requires.owned;
}

pub returns-in-Ok-tick-clause-ok : goal.returns-in-Ok-tick-clause-ok
returns-in-Ok-tick-clause-ok g c =
    subst (λ (t : Event (List ℕ)). IsStep c.args.self.now.state c.args.actor t c.in-Ok-tick.made.0 c.in-Ok-tick.made.1 c.tick.new.self.state) (is_tick g.P.Payload.seen c.args.event c.in-Tick.ensures).text c.in-Ok-tick.ensures.ok

pub returns-in-Ok-tick-clause-posting : goal.returns-in-Ok-tick-clause-posting
returns-in-Ok-tick-clause-posting g c =
    tick_posting g.P.Payload.seen (g.P.Payload.home_seen c.args.home.now) (g.P.Payload.home_seen c.tick.new.home) c.args.actor c.args.event c.in-Ok-tick.made (g.B.Boxes.seen c.args.boxes.now) c.args.self.now c.tick.new.self (is_tick g.P.Payload.seen c.args.event c.in-Tick.ensures) c.in-Ok-tick.ensures.ok c.in-Ok-tick.ensures.moves

pub returns-in-Ok-tick-clause-offers : goal.returns-in-Ok-tick-clause-offers
returns-in-Ok-tick-clause-offers g c =
    none_tried g.B.Boxes.offers c.args.boxes.now c.in-Ok-tick.made.0.posts (ap (λ (e : Entry). e.posts) c.in-Ok-tick.ensures.ok.made)

pub returns-in-Ok-tick-clause-short : goal.returns-in-Ok-tick-clause-short
returns-in-Ok-tick-clause-short g c =
    short_by g.P.Payload.seen g.P.Payload.may_refuse c.args.home.now (g.P.Payload.home_seen c.args.home.now) c.args.event c.in-Ok-tick.made.0.short c.in-Ok-tick.ensures.short

pub returns-in-Ok-tick-clause-enough : goal.returns-in-Ok-tick-clause-enough
returns-in-Ok-tick-clause-enough g c =
    λ not. enough_by g.P.Payload.seen (g.P.Payload.home_seen c.args.home.now) c.args.event Tick c.in-Ok-tick.made.1 (is_tick g.P.Payload.seen c.args.event c.in-Tick.ensures) tt

pub returns-in-Ok-tick-clause-boxes : goal.returns-in-Ok-tick-clause-boxes
returns-in-Ok-tick-clause-boxes g c =
    subst (λ (t : Table). AreBoxesOf t.conns (g.B.Boxes.seen c.args.boxes.now)) (sym c.tick.ensures.endpoints) c.requires.boxes

pub returns-in-Err-tick-clause-event : goal.returns-in-Err-tick-clause-event
returns-in-Err-tick-clause-event g c =
    same_event g.P.Payload.seen c.args.event Tick Tick (is_tick g.P.Payload.seen c.args.event c.in-Tick.ensures) refl refl

pub returns-in-Err-tick-clause-err : goal.returns-in-Err-tick-clause-err
returns-in-Err-tick-clause-err g c =
    (same_core g.P.Payload.seen c.args.self.now c.tick.new.self c.in-Err-tick.ensures.err.0, c.in-Err-tick.ensures.err.1)

pub returns-in-Err-tick-clause-same : goal.returns-in-Err-tick-clause-same
returns-in-Err-tick-clause-same g c =
    same_self (g.B.Boxes.seen c.args.boxes.now)

pub returns-in-Err-tick-clause-boxes : goal.returns-in-Err-tick-clause-boxes
returns-in-Err-tick-clause-boxes g c =
    subst (λ (t : Table). AreBoxesOf t.conns (g.B.Boxes.seen c.args.boxes.now)) (sym c.tick.ensures.endpoints) c.requires.boxes

pub send_to-requires-clause-owned : goal.send_to-requires-clause-owned
send_to-requires-clause-owned g c =
    subst (λ (ps : List g.row.P.Denot). IsOwned (g.P.Payload.home_seen c.args.home.now) (total g.P.Payload.seen (g.P.Payload.home_seen c.args.home.now).pools.family (ps ++ held_by c.args.self.now))) (is_send g.P.Payload.seen c.args.event c.in-Send.conn c.in-Send.ip c.in-Send.port c.in-Send.given c.in-Send.ensures).none c.requires.owned

pub returns-in-Send-clause-ok : goal.returns-in-Send-clause-ok
returns-in-Send-clause-ok g c =
    subst (λ (e : Event g.row.P.Denot). IfOk c.send_to.result (λ r. IsStep c.args.self.now.state c.args.actor (text_of g.P.Payload.seen e) r.0 r.1 c.send_to.new.self.state)) (sym (is_sending g.P.Payload.seen c.args.event c.in-Send.conn c.in-Send.ip c.in-Send.port c.in-Send.given c.in-Send.ensures)) c.send_to.ensures.ok

pub returns-in-Send-clause-posting : goal.returns-in-Send-clause-posting
returns-in-Send-clause-posting g c =
    sent_posting g.P.Payload.seen (g.P.Payload.home_seen c.args.home.now) (g.P.Payload.home_seen c.send_to.new.home) c.args.actor c.args.event c.in-Send.conn c.in-Send.ip c.in-Send.port c.in-Send.given c.send_to.result (g.B.Boxes.seen c.args.boxes.now) c.args.self.now c.send_to.new.self (is_send g.P.Payload.seen c.args.event c.in-Send.conn c.in-Send.ip c.in-Send.port c.in-Send.given c.in-Send.ensures) c.send_to.ensures.ok c.send_to.ensures.moves

pub returns-in-Send-clause-offers : goal.returns-in-Send-clause-offers
returns-in-Send-clause-offers g c =
    sent_offers g.P.Payload.seen g.B.Boxes.offers c.args.boxes.now c.args.actor c.in-Send.conn c.in-Send.ip c.in-Send.port c.in-Send.given c.send_to.result c.args.self.now c.send_to.new.self c.send_to.ensures.ok

pub returns-in-Send-clause-short : goal.returns-in-Send-clause-short
returns-in-Send-clause-short g c =
    subst (λ (e : Event g.row.P.Denot). IfOk c.send_to.result (λ r. r.0.short ≡ true → IsShortFor g.P.Payload.may_refuse c.args.home.now (g.P.Payload.home_seen c.args.home.now) e)) (sym (is_sending g.P.Payload.seen c.args.event c.in-Send.conn c.in-Send.ip c.in-Send.port c.in-Send.given c.in-Send.ensures)) c.send_to.ensures.short

pub returns-in-Send-clause-enough : goal.returns-in-Send-clause-enough
returns-in-Send-clause-enough g c =
    subst (λ (e : Event g.row.P.Denot). IfOk c.send_to.result (λ r. r.0.short ≡ false → IsEnoughFor (g.P.Payload.home_seen c.args.home.now) e r.1)) (sym (is_sending g.P.Payload.seen c.args.event c.in-Send.conn c.in-Send.ip c.in-Send.port c.in-Send.given c.in-Send.ensures)) (sent_enough g.P.Payload.seen c.send_to.result (g.P.Payload.home_seen c.args.home.now) (kind_of c.in-Send.given) c.send_to.ensures.enough)

pub returns-in-Send-clause-event : goal.returns-in-Send-clause-event
returns-in-Send-clause-event g c =
    sent_back g.P.Payload.seen c.args.event c.in-Send.conn c.in-Send.ip c.in-Send.port c.in-Send.given c.send_to.result (is_send g.P.Payload.seen c.args.event c.in-Send.conn c.in-Send.ip c.in-Send.port c.in-Send.given c.in-Send.ensures) c.send_to.ensures.event

pub returns-in-Send-clause-err : goal.returns-in-Send-clause-err
returns-in-Send-clause-err g c =
    same_err g.P.Payload.seen c.send_to.result c.args.self.now c.send_to.new.self (g.P.Payload.home_seen c.args.home.now) (g.P.Payload.home_seen c.send_to.new.home) c.send_to.ensures.err

pub returns-in-Send-clause-same : goal.returns-in-Send-clause-same
returns-in-Send-clause-same g c =
    boxes_err g.P.Payload.seen c.send_to.result (g.B.Boxes.seen c.args.boxes.now)

pub returns-in-Send-clause-boxes : goal.returns-in-Send-clause-boxes
returns-in-Send-clause-boxes g c =
    subst (λ (cs : Connections). AreBoxesOf cs (g.B.Boxes.seen c.args.boxes.now)) (sym c.send_to.ensures.conns) c.requires.boxes

pub returns-in-Close-clause-ok : goal.returns-in-Close-clause-ok
returns-in-Close-clause-ok g c =
    quiet_ok g.P.Payload.seen c.args.self.now c.close.new.self c.args.actor c.args.event (Close c.in-Close.conn) c.close.result (is_close g.P.Payload.seen c.args.event c.in-Close.conn c.in-Close.ensures) c.close.ensures.ok

pub returns-in-Close-clause-posting : goal.returns-in-Close-clause-posting
returns-in-Close-clause-posting g c =
    quiet_posting g.P.Payload.seen (g.P.Payload.home_seen c.args.home.now) c.args.actor c.args.event (Close c.in-Close.conn) c.close.result (g.B.Boxes.seen c.args.boxes.now) (g.B.Boxes.seen c.close.new.boxes) c.args.self.now c.close.new.self (is_close g.P.Payload.seen c.args.event c.in-Close.conn c.in-Close.ensures) c.close.ensures.ok c.close.ensures.items

pub returns-in-Close-clause-offers : goal.returns-in-Close-clause-offers
returns-in-Close-clause-offers g c =
    none_tried g.B.Boxes.offers c.args.boxes.now c.close.result.0.posts c.close.ensures.ok.posts

pub returns-in-Close-clause-short : goal.returns-in-Close-clause-short
returns-in-Close-clause-short g c =
    short_by g.P.Payload.seen g.P.Payload.may_refuse c.args.home.now (g.P.Payload.home_seen c.args.home.now) c.args.event c.close.result.0.short c.close.ensures.ok.short

pub returns-in-Close-clause-enough : goal.returns-in-Close-clause-enough
returns-in-Close-clause-enough g c =
    λ not. enough_by g.P.Payload.seen (g.P.Payload.home_seen c.args.home.now) c.args.event (Close c.in-Close.conn) c.close.result.1 (is_close g.P.Payload.seen c.args.event c.in-Close.conn c.in-Close.ensures) tt

pub returns-in-End-clause-ok : goal.returns-in-End-clause-ok
returns-in-End-clause-ok g c =
    quiet_ok g.P.Payload.seen c.args.self.now c.end.new.self c.args.actor c.args.event Stop c.end.result (is_end g.P.Payload.seen c.args.event c.in-End.ensures) c.end.ensures.ok

pub returns-in-End-clause-posting : goal.returns-in-End-clause-posting
returns-in-End-clause-posting g c =
    quiet_posting g.P.Payload.seen (g.P.Payload.home_seen c.args.home.now) c.args.actor c.args.event Stop c.end.result (g.B.Boxes.seen c.args.boxes.now) (g.B.Boxes.seen c.args.boxes.now) c.args.self.now c.end.new.self (is_end g.P.Payload.seen c.args.event c.in-End.ensures) c.end.ensures.ok (keep_self (g.B.Boxes.seen c.args.boxes.now))

pub returns-in-End-clause-offers : goal.returns-in-End-clause-offers
returns-in-End-clause-offers g c =
    none_tried g.B.Boxes.offers c.args.boxes.now c.end.result.0.posts c.end.ensures.ok.posts

pub returns-in-End-clause-short : goal.returns-in-End-clause-short
returns-in-End-clause-short g c =
    short_by g.P.Payload.seen g.P.Payload.may_refuse c.args.home.now (g.P.Payload.home_seen c.args.home.now) c.args.event c.end.result.0.short c.end.ensures.ok.short

pub returns-in-End-clause-enough : goal.returns-in-End-clause-enough
returns-in-End-clause-enough g c =
    λ not. enough_by g.P.Payload.seen (g.P.Payload.home_seen c.args.home.now) c.args.event Stop c.end.result.1 (is_end g.P.Payload.seen c.args.event c.in-End.ensures) tt

pub returns-in-End-clause-boxes : goal.returns-in-End-clause-boxes
returns-in-End-clause-boxes g c =
    subst (λ (t : Table). AreBoxesOf t.conns (g.B.Boxes.seen c.args.boxes.now)) (sym c.end.ensures.endpoints) c.requires.boxes

pub answer-requires : goal.answer-requires
answer-requires g c = record {
  asking = asks_by g.P.Payload.seen c.args.self.now.state.limits c.args.event c.in-Answer.text c.in-Answer.ensures c.requires.served;
}

pub returns-in-Answer-clause-ok : goal.returns-in-Answer-clause-ok
returns-in-Answer-clause-ok g c =
    quiet_ok g.P.Payload.seen c.args.self.now c.answer.new.self c.args.actor c.args.event c.in-Answer.text c.answer.result (is_answer g.P.Payload.seen c.args.event c.in-Answer.text c.in-Answer.ensures) c.answer.ensures.ok

pub returns-in-Answer-clause-posting : goal.returns-in-Answer-clause-posting
returns-in-Answer-clause-posting g c =
    quiet_posting g.P.Payload.seen (g.P.Payload.home_seen c.args.home.now) c.args.actor c.args.event c.in-Answer.text c.answer.result (g.B.Boxes.seen c.args.boxes.now) (g.B.Boxes.seen c.args.boxes.now) c.args.self.now c.answer.new.self (is_answer g.P.Payload.seen c.args.event c.in-Answer.text c.in-Answer.ensures) c.answer.ensures.ok (keep_self (g.B.Boxes.seen c.args.boxes.now))

pub returns-in-Answer-clause-offers : goal.returns-in-Answer-clause-offers
returns-in-Answer-clause-offers g c =
    none_tried g.B.Boxes.offers c.args.boxes.now c.answer.result.0.posts c.answer.ensures.ok.posts

pub returns-in-Answer-clause-short : goal.returns-in-Answer-clause-short
returns-in-Answer-clause-short g c =
    short_by g.P.Payload.seen g.P.Payload.may_refuse c.args.home.now (g.P.Payload.home_seen c.args.home.now) c.args.event c.answer.result.0.short c.answer.ensures.ok.short

pub returns-in-Answer-clause-enough : goal.returns-in-Answer-clause-enough
returns-in-Answer-clause-enough g c =
    λ not. enough_by g.P.Payload.seen (g.P.Payload.home_seen c.args.home.now) c.args.event c.in-Answer.text c.answer.result.1 (is_answer g.P.Payload.seen c.args.event c.in-Answer.text c.in-Answer.ensures)
    (asking_enough g.P.Payload.seen c.args.self.now.state.limits (g.P.Payload.home_seen c.args.home.now) c.in-Answer.text c.answer.result.1 (asks_by g.P.Payload.seen c.args.self.now.state.limits c.args.event c.in-Answer.text c.in-Answer.ensures c.requires.served))

pub returns-in-Answer-clause-boxes : goal.returns-in-Answer-clause-boxes
returns-in-Answer-clause-boxes g c =
    subst (λ (cs : Connections). AreBoxesOf cs (g.B.Boxes.seen c.args.boxes.now)) (sym c.answer.ensures.conns) c.requires.boxes
