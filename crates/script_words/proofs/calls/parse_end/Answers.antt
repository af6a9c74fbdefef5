use Rattle.std.proofs.Common.{[], ◌∷◌, decimal}
use Rattle.script_words.proofs.Behind.{behind_first}
use Rattle.script_words.proofs.calls.parse_end.Goals as goal

pub returns-in_err-ip : goal.returns-in_err-ip
returns-in_err-ip c =
    rw c.from_residual-in_err-ip.ensures (λ v ip port rest hv he e. c.in_err-ip.ensures ip (decimal port.0 ∷ rest) he.0 (behind_first e c.in_ok-var.ensures.1))

pub returns-in_err-port : goal.returns-in_err-port
returns-in_err-port c =
    rw c.from_residual-in_err-port.ensures (λ v ip port rest hv he e. c.in_err-port.ensures port rest he.1 (behind_first (behind_first e c.in_ok-var.ensures.1) c.in_ok-ip.ensures.1))
