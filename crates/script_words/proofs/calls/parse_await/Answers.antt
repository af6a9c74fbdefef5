use Rattle.std.proofs.Common.{[]}
use Rattle.script_words.proofs.Behind.{behind_named}
use Rattle.script_words.proofs.calls.parse_await.Goals as goal

pub returns-in_err-count : goal.returns-in_err-count
returns-in_err-count c =
    rw c.from_residual-in_err-count.ensures (λ s k hs hk e. c.in_err-count.ensures k [] hk.0 hk.1 (behind_named e c.in_ok-signal.ensures.1))
