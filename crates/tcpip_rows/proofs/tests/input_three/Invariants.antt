use Rattle.std.proofs.Common.{◌≡◌, false}
use Rattle.lw_tcpip.specs.Tokens.{IsLineOf}
use Rattle.tcpip_rows.proofs.tests.input_three.Given as goal

abbrev pub invariant-loop-index : goal.invariant-loop-index
invariant-loop-index g l = IsLineOf l.shop.tcpip l.line × (l.line.left ≡ false) × (l.line.number ≡ 0)
