use Rattle.std.proofs.Common.{map, true, false, refl, ap, ◌∙◌}
use Rattle.std.specs.Option.{unwrap_or}
use Rattle.lw_reass.specs.Datagrams.{head_with}
use Rattle.lw_reass.specs.Opens.{datagram}
use Rattle.lw_reass.proofs.Adds.{plan_refuse, plan_made}
use Rattle.lw_reass.proofs.table.plan_in.Goals as goal

pub returns-in-Some : goal.returns-in-Some
returns-in-Some g c = plan_refuse (map datagram c.args.opens.now) c.args.h.now c.args.n c.refusal.result c.in-Some.why c.in-Some.is c.refusal.ensures

pub returns-then-completes : goal.returns-then-completes
returns-then-completes g c =
    plan_made (map datagram c.args.opens.now) c.args.h.now c.args.n c.args.place (datagram c.args.own.now) c.refusal.result true c.completes.result c.unwrap_or.result c.in_default.is c.refusal.ensures c.requires.datagram c.completes.ensures c.if-completes.true c.requires.place
    (c.unwrap_or.ensures ∙ ap (λ o. unwrap_or o c.args.h.now) c.head_with.ensures)

pub returns-else-completes : goal.returns-else-completes
returns-else-completes g c =
    plan_made (map datagram c.args.opens.now) c.args.h.now c.args.n c.args.place (datagram c.args.own.now) c.refusal.result false c.completes.result (unwrap_or (head_with c.args.own.now.head c.args.h.now) c.args.h.now) c.in_default.is c.refusal.ensures c.requires.datagram c.completes.ensures c.if-completes.false c.requires.place refl
