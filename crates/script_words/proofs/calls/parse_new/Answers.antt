use Rattle.std.proofs.Common.{[]}
use Rattle.script_words.proofs.Behind.{behind_named}
use Rattle.script_words.proofs.calls.parse_new.Goals as goal

pub returns-in_err-proto : goal.returns-in_err-proto
returns-in_err-proto c =
    rw c.from_residual-in_err-proto.ensures (λ i v proto h e. c.in_err-proto.ensures proto [] (behind_named e c.in_ok-var.ensures.1))
