use Rattle.std.proofs.Common.{rules, ◌≡◌, ℕ, ◌+◌, List, [], ◌∷◌, ◌++◌, length, Bool, false, ap, sym, ◌∙◌, subst}
use Rattle.std.specs.Arc.{arc_value}
use mathlib.Core.List.{IsPrefix}
use Rattle.hist_lock.specs.Histories.{made_by}
use Rattle.hist_lock.specs.Callers.{Known, Begun}
use Rattle.tcpip_mbox.specs.Letters.{sent_by}
use Rattle.tcpip_mbox.specs.Tokens.{Named}
use Rattle.reply_box.specs.Places.{Named as PlaceNamed}
use Rattle.lw_tcpip.specs.declared.message.Task.{Task}
use Rattle.lw_tcpip.specs.declared.message.Task.TheVariants.{Call}
use Rattle.lw_tcpip.specs.declared.message.Service.{Service}
use Rattle.lw_tcpip.specs.declared.reply.LineKey.{LineKey}
use Rattle.lw_tcpip.specs.Tasks.{has_left}
use Rattle.lw_tcpip.specs.Results.{counted}
use Rattle.lw_tcpip.specs.Replies.{IsMadeOf}
use Rattle.lw_tcpip.specs.Tokens.{LineSeen, IsPlaceOf}
use Rattle.lw_tcpip.proofs.Lists.{some_same}
use Rattle.lw_tcpip.proofs.Asked.{told, given_whole}
use Rattle.lw_tcpip.proofs.Views.{asked_line, asked_seen}
use Rattle.lw_tcpip.proofs.tcpip.Tcpip.apimsg.Goals as goal

pub invariant_of-line : goal.invariant_of-line
invariant_of-line g c = let line = c.line.inside in let h = c.line.invariant in let stays : has_left line.put.sent ≡ false = ap (λ l. l.left) c.line.view_is ∙ c.requires.stays in
    let box = c.deref.result.now in let from : box ≡ arc_value line.place = search rules in
    let here : IsPlaceOf line.put.table line.put.key line.put.number box = subst (λ (b : PlaceNamed (LineKey (Named (Service (Begun g.row.O.Denot))))). IsPlaceOf line.put.table line.put.key line.put.number b) (sym from) h.place in
    let reply = c.get-reply.result in let num = c.number-number.result in let own : c.post.new.put.number ≡ num = ap (λ p. p.number) c.post.ensures ∙ sym c.number-number.ensures in
    let asked : List (Task (Known g.row.O.Denot g.row.O-Entry.Denot) g.row.O-Ev.Denot) = line.put.sent ++ Call num c.args.who c.args.ev ∷ [] in
    let pre : IsPrefix (sent_by num reply.note.given) asked = subst (λ (k : ℕ). IsPrefix (sent_by k reply.note.given) asked) own (subst (λ (l : List (Task (Known g.row.O.Denot g.row.O-Entry.Denot) g.row.O-Ev.Denot)). IsPrefix (sent_by c.post.new.put.number reply.note.given) l) (ap (λ p. p.sent) c.post.ensures) c.meet.ensures.prefix) in
    let whole = ap (λ (k : ℕ). sent_by k reply.note.given) own ∙ given_whole g.O.Serial.state g.O.Serial.tag g.O.Serial.by g.O.Serial.same g.O.Serial.tells g.O.Serial.steps box.key line.waits.count reply c.get-reply.ensures.answers num line.put.sent c.args.who c.args.ev (here.2 ∙ sym c.number-number.ensures) h.asked pre in
    asked_line line.put c.post.new.put c.meet.new.put (arc_value line.place) line.waits c.get-reply.new.waits line.places line.refusals h stays num c.args.who c.args.ev (sent_by c.post.new.put.number reply.note.given) c.post.ensures c.meet.ensures.known whole c.get-reply.ensures.got

pub returns : goal.returns
returns g c = let line = c.line.inside in let h = c.line.invariant in let stays : has_left line.put.sent ≡ false = ap (λ l. l.left) c.line.view_is ∙ c.requires.stays in
    let box = c.deref.result.now in let from : box ≡ arc_value line.place = search rules in
    let here : IsPlaceOf line.put.table line.put.key line.put.number box = subst (λ (b : PlaceNamed (LineKey (Named (Service (Begun g.row.O.Denot))))). IsPlaceOf line.put.table line.put.key line.put.number b) (sym from) h.place in
    let reply = c.get-reply.result in let num = c.number-number.result in let own : c.post.new.put.number ≡ num = ap (λ p. p.number) c.post.ensures ∙ sym c.number-number.ensures in
    let asked : List (Task (Known g.row.O.Denot g.row.O-Entry.Denot) g.row.O-Ev.Denot) = line.put.sent ++ Call num c.args.who c.args.ev ∷ [] in
    let pre : IsPrefix (sent_by num reply.note.given) asked = subst (λ (k : ℕ). IsPrefix (sent_by k reply.note.given) asked) own (subst (λ (l : List (Task (Known g.row.O.Denot g.row.O-Entry.Denot) g.row.O-Ev.Denot)). IsPrefix (sent_by c.post.new.put.number reply.note.given) l) (ap (λ p. p.sent) c.post.ensures) c.meet.ensures.prefix) in
    let whole = ap (λ (k : ℕ). sent_by k reply.note.given) own ∙ given_whole g.O.Serial.state g.O.Serial.tag g.O.Serial.by g.O.Serial.same g.O.Serial.tells g.O.Serial.steps box.key line.waits.count reply c.get-reply.ensures.answers num line.put.sent c.args.who c.args.ev (here.2 ∙ sym c.number-number.ensures) h.asked pre in
    let served = some_same box.key.mbox.value.key c.args.self.now.key (here.1 ∙ (ap (λ l. l.terms) c.line.view_is ∙ c.requires.line.1)) in
    let t = told g.O.Serial.state g.O.Serial.tag g.O.Serial.by g.O.Serial.same g.O.Serial.tells g.O.Serial.steps box.key line.waits.count reply c.get-reply.ensures.answers num line.put.sent c.args.who c.args.ev (here.2 ∙ sym c.number-number.ensures) h.asked pre c.args.self.now.key served in
    record {
      back = t.0.caller;
      ok = t.0.ok;
      err = t.0.err;
      history = t.0.history;
      entries = asked_seen line.put c.post.new.put c.meet.new.put (arc_value line.place) line.waits c.get-reply.new.waits line.places line.refusals h stays num c.args.who c.args.ev (sent_by c.post.new.put.number reply.note.given) c.post.ensures c.meet.ensures.known whole
          c.counted_after-line-inside.result reply.lost c.args.line.now line.entries line.lost c.line.view_is
          ∙ ap (λ (n : ℕ). let s : LineSeen (Begun g.row.O.Denot) g.row.O-Ev.Denot = record c.args.line.now { entries = n; lost = reply.lost } in s) (c.counted_after-line-inside.ensures ∙ ap (λ l. counted l.entries reply.result) c.line.view_is);
      fed = λ first. subst (λ (l : List g.row.O-Ev.Denot). IsMadeOf (g.O.Serial.tells (g.O.Serial.tag c.args.self.now.key.lock.value.start)) (made_by g.O.Serial.by c.args.self.now.key.server reply.caller.seen) l reply.lost) (ap (λ l. l.frames) c.line.view_is)
          (t.1 (c.number-number.ensures ∙ (ap (λ l. l.number) c.line.view_is ∙ first)));
    }
