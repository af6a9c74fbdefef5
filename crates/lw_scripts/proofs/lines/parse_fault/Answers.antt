use Rattle.std.proofs.Common.{[], ◌∷◌, decimal}
use Rattle.script_words.proofs.Behind.{behind_first}
use Rattle.lw_scripts.proofs.lines.parse_fault.Goals as goal

pub returns-in_err-side : goal.returns-in_err-side
returns-in_err-side c =
    rw c.from_residual-in_err-side.ensures
    (λ f h e. c.in_err-side.ensures f.side (decimal f.frame ∷ []) (behind_first e c.in_ok-word.ensures))

pub returns-in_err-frame : goal.returns-in_err-frame
returns-in_err-frame c =
    rw c.from_residual-in_err-frame.ensures
    (λ f h e. c.in_err-frame.ensures f.frame [] h.0 h.1 (behind_first (behind_first e c.in_ok-word.ensures) c.in_ok-side.ensures))
