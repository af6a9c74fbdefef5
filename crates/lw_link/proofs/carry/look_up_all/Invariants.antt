use Rattle.std.proofs.Common.{take}
use Rattle.lw_link.proofs.CarryLaws.{Asked}
use Rattle.lw_link.proofs.carry.look_up_all.Given as goal

abbrev pub invariant-loop-ip : goal.invariant-loop-ip
invariant-loop-ip g l = Asked g.P.Payload.seen (g.P.Payload.home_seen l.fn.home) (g.P.Payload.home_seen l.home) l.fn.table l.table (take l.ip-index l.asked)
