use Rattle.std.proofs.Common.{◌≡◌, Bool, false, ap, ◌∙◌}
use Rattle.std.specs.Arc.{arc_value}
use Rattle.lw_tcpip.specs.Tasks.{has_left}
use Rattle.lw_tcpip.proofs.Views.{left_line, left_seen}
use Rattle.lw_tcpip.proofs.tcpip.Tcpip.leave.Goals as goal

pub post-requires-clause-known : goal.post-requires-clause-known
post-requires-clause-known g c = let stays : has_left c.line.inside.put.sent ≡ false = ap (λ l. l.left) c.line.view_is ∙ c.requires.stays in c.line.invariant.known stays

pub invariant_of-line : goal.invariant_of-line
invariant_of-line g c = let line = c.line.inside in let stays : has_left line.put.sent ≡ false = ap (λ l. l.left) c.line.view_is ∙ c.requires.stays in
    left_line line.put line.put c.post.new.put (arc_value line.place) line.waits line.waits line.places line.refusals c.line.invariant stays _ c.post.ensures

pub returns : goal.returns
returns g c = let line = c.line.inside in let stays : has_left line.put.sent ≡ false = ap (λ l. l.left) c.line.view_is ∙ c.requires.stays in
    left_seen line.put line.put c.post.new.put (arc_value line.place) line.waits line.waits line.places line.refusals c.line.invariant stays _ c.post.ensures line.entries line.lost c.args.line.now c.line.view_is
