use Rattle.std.proofs.Common.{rules, ◌≡◌, ℕ, List, [], ◌∷◌, ◌++◌, length, refl, sym, subst}
use Rattle.hist_lock.specs.Callers.{Known, Begun}
use Rattle.tcpip_mbox.specs.Tokens.{Named, Sender}
use Rattle.lw_tcpip.specs.declared.message.Task.{Task}
use Rattle.lw_tcpip.specs.declared.message.Service.{Service}
use Rattle.lw_tcpip.specs.declared.reply.LineKey.{LineKey}
use Rattle.lw_tcpip.specs.Tokens.{LineSeen, SeatSeen}
use Rattle.lw_tcpip.proofs.Opening.{Opened, opened_first, opened_next, opened_last}
use Rattle.lw_tcpip.proofs.lines.open_lines.Goals as goal

pub loop-put-init : goal.loop-put-init
loop-put-init g c = let no_lines : c.in_ok-lines.lines.items ≡ [] = search rules in let no_seats : c.in_ok-seats.seats.items ≡ [] = search rules in let all : c.into_iter-put-iterator.result.rest.items ≡ c.args.puts.items = search rules in
    subst (λ (l : List (LineSeen (Begun g.row.O.Denot) g.row.O-Ev.Denot)). Opened c.args.mbox.now (length c.args.puts.items) (length c.args.puts.items) l c.in_ok-seats.seats.items c.into_iter-put-iterator.result.rest.items) (sym no_lines)
    (subst (λ (l : List (SeatSeen (LineKey (Named (Service (Begun g.row.O.Denot)))))). Opened c.args.mbox.now (length c.args.puts.items) (length c.args.puts.items) [] l c.into_iter-put-iterator.result.rest.items) (sym no_seats)
    (subst (λ (l : List (Sender (Task (Known g.row.O.Denot g.row.O-Entry.Denot) g.row.O-Ev.Denot) (Service (Begun g.row.O.Denot)))). Opened c.args.mbox.now (length c.args.puts.items) (length c.args.puts.items) [] [] l) (sym all) (opened_first c.args.mbox.now (length c.args.puts.items) c.args.puts.items c.requires.puts)))

pub loop-put-preserved : goal.loop-put-preserved
loop-put-preserved g c = let l = c.loop-put in let left : l.put-iterator.rest.items ≡ c.in-Some.put ∷ c.next.new.self.rest.items = search rules in
    let before : Opened c.args.mbox.now (length c.args.puts.items) (length c.args.puts.items) l.lines.items l.seats.items (c.in-Some.put ∷ c.next.new.self.rest.items) = subst (λ (r : List (Sender (Task (Known g.row.O.Denot g.row.O-Entry.Denot) g.row.O-Ev.Denot) (Service (Begun g.row.O.Denot)))). Opened c.args.mbox.now (length c.args.puts.items) (length c.args.puts.items) l.lines.items l.seats.items r) left l.invariant in
    let lines : c.push.new.self.items ≡ l.lines.items ++ c.in_ok-line.line ∷ [] = search rules in let seats : c.push-in-loop-put.new.self.items ≡ l.seats.items ++ c.in_ok-line.seat ∷ [] = search rules in
    subst (λ (k : List (LineSeen (Begun g.row.O.Denot) g.row.O-Ev.Denot)). Opened c.args.mbox.now (length c.args.puts.items) (length c.args.puts.items) k c.push-in-loop-put.new.self.items c.next.new.self.rest.items) (sym lines)
    (subst (λ (k : List (SeatSeen (LineKey (Named (Service (Begun g.row.O.Denot)))))). Opened c.args.mbox.now (length c.args.puts.items) (length c.args.puts.items) (l.lines.items ++ c.in_ok-line.line ∷ []) k c.next.new.self.rest.items) (sym seats)
    (opened_next c.args.mbox.now (length c.args.puts.items) (length c.args.puts.items) l.lines.items l.seats.items c.in-Some.put c.next.new.self.rest.items c.in_ok-line.line c.in_ok-line.seat before c.in_ok-line.ensures.line c.in_ok-line.ensures.seat))

pub returns-clause-lines : goal.returns-clause-lines
returns-clause-lines g c = let l = c.loop-put in let none : length l.put-iterator.rest.items ≡ 0 = search rules in
    (opened_last c.args.mbox.now (length c.args.puts.items) c.args.puts.items l.lines.items l.seats.items l.put-iterator.rest.items c.requires.puts refl none l.invariant).0
