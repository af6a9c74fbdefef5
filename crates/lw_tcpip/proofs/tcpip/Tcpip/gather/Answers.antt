use Rattle.std.proofs.Common.{◌≡◌, ℕ, true, ap, sym, ◌∙◌, subst, arith}
use mathlib.Core.List.{IsPrefix}
use Rattle.tcpip_mbox.specs.Letters.{sent_by}
use Rattle.lw_tcpip.specs.Tasks.{frames_of, has_left}
use Rattle.lw_tcpip.specs.Tokens.{IsServer}
use Rattle.lw_tcpip.proofs.Seats.{gathered_line}
use Rattle.lw_tcpip.proofs.Turning.{other_back}
use Rattle.lw_tcpip.proofs.tcpip.Tcpip.gather.Goals as goal

pub invariant_of-server : goal.invariant_of-server
invariant_of-server g c = let s = c.server.inside in subst (λ r. IsServer r s.seats.items s.ended) (sym c.gather.ensures.back) (other_back s.get _ s.seats.items s.ended c.server.invariant)

pub returns-clause-frames : goal.returns-clause-frames
returns-clause-frames g c = λ first. let s = c.server.inside in let p = c.line.inside.put in let zero : p.number ≡ 0 = ap (λ l. l.number) c.line.view_is ∙ first in
    let ended : s.ended ≡ true = ap (λ x. x.ended) c.server.view_is ∙ c.requires.ended in
    let pre : IsPrefix (sent_by 0 s.get.given) p.sent = subst (λ (k : ℕ). IsPrefix (sent_by k s.get.given) p.sent) zero c.gather.ensures.prefix in
    ap (λ r. frames_of (sent_by 0 r.given)) c.gather.ensures.back ∙ (ap frames_of (gathered_line s.get.given 0 p.sent (c.server.invariant.ended ended 0 (omega arith)) pre c.line.invariant.last) ∙ ap (λ l. l.frames) c.line.view_is)

pub returns-clause-left : goal.returns-clause-left
returns-clause-left g c = λ first. let s = c.server.inside in let p = c.line.inside.put in let zero : p.number ≡ 0 = ap (λ l. l.number) c.line.view_is ∙ first in
    let ended : s.ended ≡ true = ap (λ x. x.ended) c.server.view_is ∙ c.requires.ended in
    let pre : IsPrefix (sent_by 0 s.get.given) p.sent = subst (λ (k : ℕ). IsPrefix (sent_by k s.get.given) p.sent) zero c.gather.ensures.prefix in
    let gone = c.server.invariant.ended ended 0 (omega arith) in
    sym (ap (λ l. l.left) c.line.view_is) ∙ (ap has_left (sym (gathered_line s.get.given 0 p.sent gone pre c.line.invariant.last)) ∙ gone)
