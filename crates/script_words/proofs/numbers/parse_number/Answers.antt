use Rattle.std.proofs.Common.{sym, subst, arith}
use Rattle.std.specs.Str.{IsUtf8}
use Rattle.std.proofs.lemmas.Fmt.{IsAscii-decimal}
use Rattle.std.proofs.lemmas.Str.{IsUtf8-from_ascii}
use Rattle.script_words.proofs.NumberLaws.{IsPlain, decimal_plain, number_found, number_missing}
use Rattle.script_words.proofs.numbers.parse_number.Goals as goal

pub returns-then-not-may_be_number : goal.returns-then-not-may_be_number
returns-then-not-may_be_number c = λ n small e.
    let plain = subst IsPlain (sym e) (decimal_plain n (omega arith)) in
    let yes = c.may_be_number.ensures.1 (plain.some, plain.sign, plain.zero_alone) in
    cc

pub returns-in_err-text : goal.returns-in_err-text
returns-in_err-text c =
    rw c.from_residual.ensures
    (λ n small e. c.in_err-text.ensures (subst IsUtf8 (sym e) (IsUtf8-from_ascii _ (IsAscii-decimal n (omega arith)))))

pub returns-in-Ok : goal.returns-in-Ok
returns-in-Ok c =
    let plain = c.may_be_number.ensures.0 (cc) in
    number_found c.args.word.now c.in_ok-text.text.now c.in-Ok.number c.in_ok-text.ensures (record { some = plain.0; sign = plain.1; zero_alone = plain.2 }) c.in-Ok.ensures.value.0

pub returns-in-Err : goal.returns-in-Err
returns-in-Err c = λ n small e.
    number_missing c.args.word.now c.in_ok-text.text.now c.in_ok-text.ensures c.in-Err.ensures.value.0 n small e
