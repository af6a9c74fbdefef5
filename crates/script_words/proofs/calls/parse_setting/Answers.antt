use Rattle.std.proofs.Common.{[]}
use Rattle.script_words.proofs.Behind.{behind_named}
use Rattle.script_words.proofs.calls.parse_setting.Goals as goal

pub returns-in_err-on : goal.returns-in_err-on
returns-in_err-on c =
    rw c.from_residual-in_err-on.ensures
    (record { non_block = λ v on h e. c.in_err-on.ensures on [] (behind_named e c.in_ok-var.ensures.1); no_delay = λ v on h e. c.in_err-on.ensures on [] (behind_named e c.in_ok-var.ensures.1) })
