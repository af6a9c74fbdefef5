use Rattle.std.proofs.Common.{◌≡◌, ◌≤◌, ◌++◌, List, ℕ, codes, length, subst, sym}
use Rattle.hex.specs.Hex.{encode_lower}
use Rattle.script_words.proofs.HexLaws.{counted_digits, word_of_digits}
use Rattle.script_words.proofs.Behind.{same_digits}
use Rattle.script_words.proofs.send_data.parse_spelled.Goals as goal

pub returns-then-not-are_enough : goal.returns-then-not-are_enough
returns-then-not-are_enough c = λ octets h e.
    let n = counted_digits octets h in
    let same : c.in-Some.digits.now ≡ encode_lower octets = same_digits c.args.word.now c.in-Some.digits.now (encode_lower octets) c.in-Some.ensures e in
    let yes = c.are_enough.ensures.1 (subst (λ (t : List ℕ). (2 ≤ length t) × (length t ≤ 3000)) (sym same) n) in
    cc

pub returns : goal.returns
returns c =
    word_of_digits c.args.word.now c.in-Some.digits.now c.parse_digits.result c.in-Some.ensures c.parse_digits.ensures
