use Rattle.std.proofs.Common.{[]}
use Rattle.script_words.proofs.Behind.{behind_first}
use Rattle.script_words.proofs.calls.parse_var_number.Goals as goal

pub returns-in_err-number : goal.returns-in_err-number
returns-in_err-number c =
    rw c.from_residual-in_err-number.ensures (λ v n hv least most e. c.in_err-number.ensures n [] least most (behind_first e c.in_ok-var.ensures.1))
