use Rattle.std.proofs.Common.{◌≡◌}
use Rattle.lw_board.specs.Tokens.{origin}
use Rattle.lw_board.proofs.tests.watch.Given as goal

abbrev pub invariant-loop : goal.invariant-loop
invariant-loop l = l.l.board ≡ origin l.b
