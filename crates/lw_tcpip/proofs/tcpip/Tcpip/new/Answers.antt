use Rattle.std.proofs.Common.{◌≡◌, ℕ, ◌-◌, [], Some, ap, sym, ◌∙◌}
use Rattle.hist_lock.specs.Callers.{Known, Begun}
use Rattle.tcpip_mbox.specs.Tokens.{Receiver}
use Rattle.lw_tcpip.specs.declared.message.Task.{Task}
use Rattle.lw_tcpip.specs.declared.message.Service.{Service}
use Rattle.lw_tcpip.proofs.Opening.{puts_many, server_new}
use Rattle.lw_tcpip.proofs.tcpip.Tcpip.new.Goals as goal

pub invariant_of-server : goal.invariant_of-server
invariant_of-server g c = let made = c.in_ok-mbox in let opened = c.in_ok-opened in
    server_new made.mbox c.args.lines made.get opened.seats.items
    (made.ensures.get ∙ ap (λ (k : Service (Begun g.row.O.Denot)). let r : Receiver (Task (Known g.row.O.Denot g.row.O-Entry.Denot) g.row.O-Ev.Denot) (Service (Begun g.row.O.Denot)) = record { table = made.mbox.table; key = Some k; others = c.args.lines - 1; given = []; back = [] } in r) (sym made.ensures.mbox.1))
    c.requires.1 (opened.ensures.seats.1 ∙ puts_many made.mbox c.args.lines made.puts.items made.ensures.puts) opened.ensures.seats.0
