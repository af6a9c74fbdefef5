use Rattle.std.proofs.Common.{arith}
use Rattle.script_words.proofs.NumberLaws.{kept}
use Rattle.script_words.proofs.numbers.parse_within.Goals as goal

pub returns : goal.returns
returns c =
    kept c.args.word.now c.in_ok-number.number c.args.low c.args.high c.is_within.result c.then_some.result c.in_ok-number.ensures.0 (omega (arith, c.ranges.high)) c.in_ok-number.ensures.1 c.is_within.ensures c.then_some.ensures
