use Rattle.lw_mbox.specs.Tokens.{IsOf}
use Rattle.bench_mbox.proofs.ticketed.take_all.Given as goal

abbrev pub invariant-loop : goal.invariant-loop
invariant-loop l = IsOf l.mbox l.taker.board l.taker.key

abbrev pub invariant-loop-2 : goal.invariant-loop-2
invariant-loop-2 l = IsOf l.mbox l.taker.board l.taker.key
