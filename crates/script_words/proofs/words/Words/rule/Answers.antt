use Rattle.std.proofs.Common.{[], arith}
use Rattle.script_words.proofs.Behind.{behind_first}
use Rattle.script_words.proofs.words.Words.rule.Goals as goal

pub returns-in_err-first : goal.returns-in_err-first
returns-in_err-first c =
    rw c.from_residual-in_err-first.ensures
    (λ count first h e. let small = h.1 in c.in_err-first.ensures first [] (omega arith) (omega arith) (behind_first e c.in_ok-count.ensures.2))
