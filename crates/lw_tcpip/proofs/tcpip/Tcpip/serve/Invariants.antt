use Rattle.hist_lock.specs.Callers.{IsSameCaller}
use Rattle.lw_tcpip.specs.Replies.{IsMadeOf}
use Rattle.lw_tcpip.specs.Tokens.{IsServerOf}
use Rattle.lw_tcpip.proofs.tcpip.Tcpip.serve.Given as goal

abbrev pub invariant-loop : goal.invariant-loop
invariant-loop g l = IsServerOf l.self l.server × IsSameCaller l.fn.who l.who × IsMadeOf (g.O.Serial.tells (g.O.Serial.tag l.lock.start)) l.who.mine l.server.taken l.server.lost
