use Rattle.std.proofs.Common.{◌++◌, List, ℕ, ap, append-nil, codes, decimal, sym}
use Rattle.lw_transcript.proofs.Printing.{Prints-same, Prints-then}
use Rattle.lw_transcript.proofs.call_text.actor_line.Goals as goal

pub returns : goal.returns
returns g c =
    Prints-same (Prints-then (Prints-then c.text.ensures c.number.ensures) c.text-2.ensures)
    (ap (λ (t : List ℕ). codes "actor " ++ t ++ codes "\n") (sym (append-nil (decimal c.args.number))))
