use Rattle.std.proofs.Common.{Bool, ◌==◌, ◌||◌, ap, ◌∙◌, arith}
use Rattle.lw_scripts.proofs.MarkLaws.{mark_set}
use Rattle.lw_scripts.proofs.faults.with_mark.Goals as goal

pub returns : goal.returns
returns c = λ k.
    let room = c.in_ok-marks.ensures.0 in
    mark_set c.in_ok-marks.marks.items c.args.number k (omega arith) ∙ ap (λ (b : Bool). b || (k == c.args.number)) (c.in_ok-marks.ensures.1 k)
