use Rattle.std.proofs.Common.{rules, ◌≡◌, ℕ, ◌+◌, ◌≤◌, true, All, List, [], ◌∷◌, ◌++◌, length, slice_get, slice_set, take, drop, Bool, ap, sym, ◌∙◌, subst}
use Rattle.hist_lock.specs.Histories.{made_by}
use Rattle.hist_lock.specs.Callers.{Known, Begun}
use Rattle.tcpip_mbox.specs.Letters.{sent_by}
use Rattle.tcpip_mbox.specs.Tokens.{Named, letter}
use Rattle.lw_tcpip.specs.declared.message.Task.{Task}
use Rattle.lw_tcpip.specs.declared.message.Task.TheVariants.{Frame, Call, Leave}
use Rattle.lw_tcpip.specs.declared.message.Service.{Service}
use Rattle.lw_tcpip.specs.declared.reply.LineKey.{LineKey}
use Rattle.lw_tcpip.specs.Tasks.{Fits, frames_of}
use Rattle.lw_tcpip.specs.Replies.{IsMadeOf}
use Rattle.lw_tcpip.specs.Tokens.{ServerSeen, SeatSeen, answered, IsServer}
use Rattle.lw_tcpip.proofs.Lists.{some_same}
use Rattle.lw_tcpip.proofs.Turning.{called_server, fed_server, left_server, made-frame, made-call, made-leave, written_back}
use Rattle.lw_tcpip.proofs.Asked.{answers_made}
use Rattle.lw_tcpip.proofs.tcpip.Tcpip.turn.Goals as goal

pub invariant_of-server : goal.invariant_of-server
invariant_of-server g c = let s = c.server.inside in let inv = c.server.invariant in let some = c.fetch.ensures.got in let same = c.fetch.ensures.same in
    let given : c.fetch.new.get.given ≡ s.get.given ++ letter some.0 (Frame c.in-Frame.frame) ∷ [] = some.3 ∙ ap (λ (m : Task (Known g.row.O.Denot g.row.O-Entry.Denot) g.row.O-Ev.Denot). s.get.given ++ letter some.0 m ∷ []) c.in-Frame.is in
    let fit : Fits g.O.Serial.fits g.O.Serial.tag c.self.inside.mbox.key some.0 (sent_by some.0 s.get.given) (Frame c.in-Frame.frame) = subst (λ (m : Task (Known g.row.O.Denot g.row.O-Entry.Denot) g.row.O-Ev.Denot). Fits g.O.Serial.fits g.O.Serial.tag c.self.inside.mbox.key some.0 (sent_by some.0 s.get.given) m) c.in-Frame.is some.2 in
    fed_server s.get c.fetch.new.get s.seats.items s.seats.items s.ended inv some.0 some.1 same c.in-Frame.frame given

pub returns-in-Frame-clause-made : goal.returns-in-Frame-clause-made
returns-in-Frame-clause-made g c = let s = c.server.inside in let inv = c.server.invariant in let some = c.fetch.ensures.got in let same = c.fetch.ensures.same in
    let given : c.fetch.new.get.given ≡ s.get.given ++ letter some.0 (Frame c.in-Frame.frame) ∷ [] = some.3 ∙ ap (λ (m : Task (Known g.row.O.Denot g.row.O-Entry.Denot) g.row.O-Ev.Denot). s.get.given ++ letter some.0 m ∷ []) c.in-Frame.is in
    let fit : Fits g.O.Serial.fits g.O.Serial.tag c.self.inside.mbox.key some.0 (sent_by some.0 s.get.given) (Frame c.in-Frame.frame) = subst (λ (m : Task (Known g.row.O.Denot g.row.O-Entry.Denot) g.row.O-Ev.Denot). Fits g.O.Serial.fits g.O.Serial.tag c.self.inside.mbox.key some.0 (sent_by some.0 s.get.given) m) c.in-Frame.is some.2 in
    let made : IsMadeOf (g.O.Serial.tells (g.O.Serial.tag c.args.lock.now.start)) c.args.who.now.mine (frames_of (sent_by 0 s.get.given)) s.lost = subst (λ (x : ServerSeen (Begun g.row.O.Denot) g.row.O-Ev.Denot). IsMadeOf (g.O.Serial.tells (g.O.Serial.tag c.args.lock.now.start)) c.args.who.now.mine x.taken x.lost) (sym c.server.view_is) c.requires.made in
    made-frame (g.O.Serial.tells (g.O.Serial.tag c.args.lock.now.start)) s.get.given c.fetch.new.get.given some.0 c.args.who.now.mine s.lost made c.make_frame-made.new.who.mine c.make_frame-made.result c.in-Frame.frame fit.0 given c.make_frame-made.ensures.made

pub give-requires-clause-seat : goal.give-requires-clause-seat
give-requires-clause-seat g c = λ q found. let s = c.server.inside in let inv = c.server.invariant in let some = c.fetch.ensures.got in let same = c.fetch.ensures.same in
    let given : c.fetch.new.get.given ≡ s.get.given ++ letter some.0 (Call c.in-Call.line c.in-Call.caller c.in-Call.event) ∷ [] = some.3 ∙ ap (λ (m : Task (Known g.row.O.Denot g.row.O-Entry.Denot) g.row.O-Ev.Denot). s.get.given ++ letter some.0 m ∷ []) c.in-Call.is in
    let fit : Fits g.O.Serial.fits g.O.Serial.tag c.self.inside.mbox.key some.0 (sent_by some.0 s.get.given) (Call c.in-Call.line c.in-Call.caller c.in-Call.event) = subst (λ (m : Task (Known g.row.O.Denot g.row.O-Entry.Denot) g.row.O-Ev.Denot). Fits g.O.Serial.fits g.O.Serial.tag c.self.inside.mbox.key some.0 (sent_by some.0 s.get.given) m) c.in-Call.is some.2 in
    let made : IsMadeOf (g.O.Serial.tells (g.O.Serial.tag c.args.lock.now.start)) c.args.who.now.mine (frames_of (sent_by 0 s.get.given)) s.lost = subst (λ (x : ServerSeen (Begun g.row.O.Denot) g.row.O-Ev.Denot). IsMadeOf (g.O.Serial.tells (g.O.Serial.tag c.args.lock.now.start)) c.args.who.now.mine x.taken x.lost) (sym c.server.view_is) c.requires.made in
    let at = ap (λ (l : List (SeatSeen (LineKey (Named (Service (Begun g.row.O.Denot)))))). slice_get l some.0) (sym c.deref_mut.ensures.value) ∙ (ap (λ (k : ℕ). slice_get c.deref_mut.result.now k) (sym fit.0) ∙ found) in
    let seat = inv.each some.0 q at in let note = c.note-note.ensures.note in (
      seat.own,
      answers_made g.O.Serial.state g.O.Serial.tag g.O.Serial.by g.O.Serial.same g.O.Serial.tells g.O.Serial.steps q.place.key c.args.self.now.key c.args.lock.now.start some.0 q.pledge.count c.in-Call.line s.get.given c.in-Call.caller c.in-Call.event c.make_call-caller.result.0 c.make_call-caller.result.1 c.note-note.result s.lost c.args.who.now.mine
          (ap (λ x. x.table) note ∙ (same.0 ∙ sym seat.place.0))
          (some_same q.place.key.mbox.value.key c.args.self.now.key (seat.place.1 ∙ (ap (λ x. x.terms) c.server.view_is ∙ c.requires.server.1)))
          (ap (λ b. b.start) c.requires.lock) seat.place.2 fit.0 seat.count (ap (λ x. x.given) note ∙ given) c.make_call-caller.ensures.answer
          (ap (λ (k : ℕ). made_by g.O.Serial.by k c.make_call-caller.result.0.seen) (sym c.requires.own.1) ∙ c.make_call-caller.ensures.heard) made,
    )

pub invariant_of-server-in-Call : goal.invariant_of-server-in-Call
invariant_of-server-in-Call g c = let s = c.server.inside in let inv = c.server.invariant in let some = c.fetch.ensures.got in let same = c.fetch.ensures.same in
    let given : c.fetch.new.get.given ≡ s.get.given ++ letter some.0 (Call c.in-Call.line c.in-Call.caller c.in-Call.event) ∷ [] = some.3 ∙ ap (λ (m : Task (Known g.row.O.Denot g.row.O-Entry.Denot) g.row.O-Ev.Denot). s.get.given ++ letter some.0 m ∷ []) c.in-Call.is in
    let fit : Fits g.O.Serial.fits g.O.Serial.tag c.self.inside.mbox.key some.0 (sent_by some.0 s.get.given) (Call c.in-Call.line c.in-Call.caller c.in-Call.event) = subst (λ (m : Task (Known g.row.O.Denot g.row.O-Entry.Denot) g.row.O-Ev.Denot). Fits g.O.Serial.fits g.O.Serial.tag c.self.inside.mbox.key some.0 (sent_by some.0 s.get.given) m) c.in-Call.is some.2 in
    let kept = c.note-note.ensures.same in let value = c.deref_mut.ensures.value in let long : s.seats.len ≡ length c.give.new.seats = search rules in
    subst (λ (l : List (SeatSeen (LineKey (Named (Service (Begun g.row.O.Denot)))))). IsServer c.note-note.new.get l s.ended) (sym (written_back s.seats.items c.give.new.seats s.seats.len long))
    (called_server s.get c.note-note.new.get s.seats.items c.give.new.seats s.ended inv some.0 some.1 (ap (λ x. x.table) kept ∙ same.0, ap (λ x. x.key) kept ∙ same.1, ap (λ x. x.others) kept ∙ same.2) c.in-Call.line c.in-Call.caller c.in-Call.event
    (ap (λ x. x.given) kept ∙ given) fit.0 (λ q f. c.give.ensures q (ap (λ (l : List (SeatSeen (LineKey (Named (Service (Begun g.row.O.Denot)))))). slice_get l c.in-Call.line) value ∙ f) ∙ ap (λ (l : List (SeatSeen (LineKey (Named (Service (Begun g.row.O.Denot)))))). slice_set l c.in-Call.line (answered q)) value))

pub returns-in-Call-clause-made : goal.returns-in-Call-clause-made
returns-in-Call-clause-made g c = let s = c.server.inside in let inv = c.server.invariant in let some = c.fetch.ensures.got in let same = c.fetch.ensures.same in
    let given : c.fetch.new.get.given ≡ s.get.given ++ letter some.0 (Call c.in-Call.line c.in-Call.caller c.in-Call.event) ∷ [] = some.3 ∙ ap (λ (m : Task (Known g.row.O.Denot g.row.O-Entry.Denot) g.row.O-Ev.Denot). s.get.given ++ letter some.0 m ∷ []) c.in-Call.is in
    let fit : Fits g.O.Serial.fits g.O.Serial.tag c.self.inside.mbox.key some.0 (sent_by some.0 s.get.given) (Call c.in-Call.line c.in-Call.caller c.in-Call.event) = subst (λ (m : Task (Known g.row.O.Denot g.row.O-Entry.Denot) g.row.O-Ev.Denot). Fits g.O.Serial.fits g.O.Serial.tag c.self.inside.mbox.key some.0 (sent_by some.0 s.get.given) m) c.in-Call.is some.2 in
    let made : IsMadeOf (g.O.Serial.tells (g.O.Serial.tag c.args.lock.now.start)) c.args.who.now.mine (frames_of (sent_by 0 s.get.given)) s.lost = subst (λ (x : ServerSeen (Begun g.row.O.Denot) g.row.O-Ev.Denot). IsMadeOf (g.O.Serial.tells (g.O.Serial.tag c.args.lock.now.start)) c.args.who.now.mine x.taken x.lost) (sym c.server.view_is) c.requires.made in
    made-call (g.O.Serial.tells (g.O.Serial.tag c.args.lock.now.start)) s.get.given c.note-note.new.get.given some.0 c.args.who.now.mine s.lost made c.make_call-caller.new.server.mine c.in-Call.line c.in-Call.caller c.in-Call.event (ap (λ x. x.given) c.note-note.ensures.same ∙ given) c.make_call-caller.ensures.server.1

pub invariant_of-server-in-Leave : goal.invariant_of-server-in-Leave
invariant_of-server-in-Leave g c = let s = c.server.inside in let inv = c.server.invariant in let some = c.fetch.ensures.got in let same = c.fetch.ensures.same in
    let given : c.fetch.new.get.given ≡ s.get.given ++ letter some.0 (Leave c.in-Leave.line) ∷ [] = some.3 ∙ ap (λ (m : Task (Known g.row.O.Denot g.row.O-Entry.Denot) g.row.O-Ev.Denot). s.get.given ++ letter some.0 m ∷ []) c.in-Leave.is in
    let fit : Fits g.O.Serial.fits g.O.Serial.tag c.self.inside.mbox.key some.0 (sent_by some.0 s.get.given) (Leave c.in-Leave.line) = subst (λ (m : Task (Known g.row.O.Denot g.row.O-Entry.Denot) g.row.O-Ev.Denot). Fits g.O.Serial.fits g.O.Serial.tag c.self.inside.mbox.key some.0 (sent_by some.0 s.get.given) m) c.in-Leave.is some.2 in
    let value = c.deref_mut-in-Leave.ensures.value in let long : s.seats.len ≡ length c.leave.new.seats = search rules in let back = written_back s.seats.items c.leave.new.seats s.seats.len long in
    subst (λ (l : List (SeatSeen (LineKey (Named (Service (Begun g.row.O.Denot)))))). IsServer c.fetch.new.get l c.all_left-server-inside.result) (sym back)
    (left_server s.get c.fetch.new.get s.seats.items c.leave.new.seats s.ended inv some.0 some.1 same c.in-Leave.line c.all_left-server-inside.result given fit
    (λ q f. c.leave.ensures q (ap (λ (l : List (SeatSeen (LineKey (Named (Service (Begun g.row.O.Denot)))))). slice_get l c.in-Leave.line) value ∙ f) ∙ ap (λ (l : List (SeatSeen (LineKey (Named (Service (Begun g.row.O.Denot)))))). let k : List (SeatSeen (LineKey (Named (Service (Begun g.row.O.Denot))))) = slice_set l c.in-Leave.line (record q { left = true }) in k) value)
    (λ e. subst (λ (l : List (SeatSeen (LineKey (Named (Service (Begun g.row.O.Denot)))))). All (λ (t : SeatSeen (LineKey (Named (Service (Begun g.row.O.Denot))))). t.left ≡ true) l) (c.deref.ensures.value ∙ back) (c.all_left-server-inside.ensures e)))

pub returns-in-Leave-clause-made : goal.returns-in-Leave-clause-made
returns-in-Leave-clause-made g c = let s = c.server.inside in let inv = c.server.invariant in let some = c.fetch.ensures.got in let same = c.fetch.ensures.same in
    let given : c.fetch.new.get.given ≡ s.get.given ++ letter some.0 (Leave c.in-Leave.line) ∷ [] = some.3 ∙ ap (λ (m : Task (Known g.row.O.Denot g.row.O-Entry.Denot) g.row.O-Ev.Denot). s.get.given ++ letter some.0 m ∷ []) c.in-Leave.is in
    let fit : Fits g.O.Serial.fits g.O.Serial.tag c.self.inside.mbox.key some.0 (sent_by some.0 s.get.given) (Leave c.in-Leave.line) = subst (λ (m : Task (Known g.row.O.Denot g.row.O-Entry.Denot) g.row.O-Ev.Denot). Fits g.O.Serial.fits g.O.Serial.tag c.self.inside.mbox.key some.0 (sent_by some.0 s.get.given) m) c.in-Leave.is some.2 in
    let made : IsMadeOf (g.O.Serial.tells (g.O.Serial.tag c.args.lock.now.start)) c.args.who.now.mine (frames_of (sent_by 0 s.get.given)) s.lost = subst (λ (x : ServerSeen (Begun g.row.O.Denot) g.row.O-Ev.Denot). IsMadeOf (g.O.Serial.tells (g.O.Serial.tag c.args.lock.now.start)) c.args.who.now.mine x.taken x.lost) (sym c.server.view_is) c.requires.made in
    made-leave (g.O.Serial.tells (g.O.Serial.tag c.args.lock.now.start)) s.get.given c.fetch.new.get.given some.0 c.args.who.now.mine s.lost made c.in-Leave.line given
