use Rattle.std.proofs.Common.{take, drop, reverse, sym, ap, ◌∙◌, arith}
use Rattle.std.proofs.lemmas.List.{take_at, drop_at}
use Rattle.lw_runs.proofs.chunk.move_half.Goals as goal

pub returns-clause-front : goal.returns-clause-front
returns-clause-front g c =
    sym (take_at c.loop-back.chunk.items (reverse c.loop-back.back.items) 16 (let least = c.loop-back.invariant.least in let end = c.loop-back-test.false in let len = c.len.ensures in omega arith)) ∙ ap (λ xs. take 16 xs) c.loop-back.invariant.all

pub returns-clause-back : goal.returns-clause-back
returns-clause-back g c =
    c.reverse.ensures.items
    ∙ sym (drop_at c.loop-back.chunk.items (reverse c.loop-back.back.items) 16 (let least = c.loop-back.invariant.least in let end = c.loop-back-test.false in let len = c.len.ensures in omega arith))
    ∙ ap (λ xs. drop 16 xs) c.loop-back.invariant.all
