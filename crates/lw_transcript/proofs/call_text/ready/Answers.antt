use Rattle.std.proofs.Common.{◌++◌, List, ℕ, ap, codes}
use Rattle.lw_transcript.proofs.Printing.{Prints-same, Prints-then}
use Rattle.lw_transcript.proofs.FieldLists.{tests_texts}
use Rattle.lw_transcript.proofs.call_text.ready.Goals as goal

pub returns : goal.returns
returns g c =
    Prints-same (Prints-then c.behind.ensures c.tests.ensures) (ap (λ (t : List ℕ). codes " ready" ++ t) (tests_texts c.args.items.now))
