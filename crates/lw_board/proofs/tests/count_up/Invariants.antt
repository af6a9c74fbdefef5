use Rattle.std.proofs.Common.{◌≡◌}
use Rattle.lw_board.specs.Tokens.{origin}
use Rattle.lw_board.proofs.tests.count_up.Given as goal

abbrev pub invariant-loop-v : goal.invariant-loop-v
invariant-loop-v l = l.w.board ≡ origin l.b
