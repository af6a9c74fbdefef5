use Rattle.std.proofs.Common.{arith}
use Rattle.script_words.proofs.Pieces.{cut_none, cut_some}
use Rattle.script_words.proofs.words.cut.Goals as goal

pub split_at-requires : goal.split_at-requires
split_at-requires c =
    let found = cut_some c.args.at c.args.text.now c.in_ok-end.end c.in_ok-end.ensures in omega (arith, found.0)

pub split_at-requires-2 : goal.split_at-requires-2
split_at-requires-2 c =
    let found = cut_some c.args.at c.args.text.now c.in_ok-end.end c.in_ok-end.ensures in
    omega (arith, found.0, c.split_at.ensures.back_len)

pub returns-in_err-end : goal.returns-in_err-end
returns-in_err-end c = rw c.from_residual.ensures (cut_none c.args.at c.args.text.now c.in_err-end.ensures)

pub returns : goal.returns
returns c =
    let found = cut_some c.args.at c.args.text.now c.in_ok-end.end c.in_ok-end.ensures in
    let front = c.split_at.ensures.front in
    let rest = c.split_at.ensures.back in
    let behind = c.split_at-2.ensures.back in
    let whole = found.1 in
    (rw (front, behind, rest) whole, omega (arith, found.0, c.split_at.ensures.back_len, c.split_at-2.ensures.back_len))
