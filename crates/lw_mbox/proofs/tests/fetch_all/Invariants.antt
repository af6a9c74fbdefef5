use Rattle.lw_mbox.specs.Tokens.{IsOf}
use Rattle.lw_mbox.proofs.tests.fetch_all.Given as goal

abbrev pub invariant-loop : goal.invariant-loop
invariant-loop l = IsOf l.mbox l.taker.board l.taker.key
