use Rattle.std.proofs.Common.{◌≡◌, Bool, false, ap, ◌∙◌}
use Rattle.std.specs.Arc.{arc_value}
use Rattle.lw_tcpip.specs.Tasks.{has_left}
use Rattle.lw_tcpip.proofs.Views.{fed_line, fed_seen}
use Rattle.lw_tcpip.proofs.tcpip.Tcpip.input.Goals as goal

pub invariant_of-line : goal.invariant_of-line
invariant_of-line g c = let line = c.line.inside in let stays : has_left line.put.sent ≡ false = ap (λ l. l.left) c.line.view_is ∙ c.requires.stays in
    fed_line line.put line.put c.put.new.put (arc_value line.place) line.waits line.waits line.places line.refusals c.line.invariant stays (ap (λ l. l.number) c.line.view_is ∙ c.requires.first) c.args.frame c.in-Ok.ensures.ok

pub returns-in-Ok-clause-ok : goal.returns-in-Ok-clause-ok
returns-in-Ok-clause-ok g c = let line = c.line.inside in let stays : has_left line.put.sent ≡ false = ap (λ l. l.left) c.line.view_is ∙ c.requires.stays in
    fed_seen line.put line.put c.put.new.put (arc_value line.place) line.waits line.waits line.places line.refusals c.line.invariant stays c.args.frame c.in-Ok.ensures.ok line.entries line.lost c.args.line.now c.line.view_is
