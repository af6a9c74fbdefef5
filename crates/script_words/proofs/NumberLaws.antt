-- What is a number is spelled in one way.
use Rattle.std.proofs.Common.{◌≡◌, ◌≢◌, ℕ, ◌+◌, ◌-◌, ◌<◌, ◌≤◌, ◌^◌, ◌∷◌, ◌++◌, [], List, length, get_or, decimal, refl, sym, ap, ◌∙◌, subst, arith, inl, inr, Bool, true, false, IsTrue, ◌↔◌, Option, MatchOption, Result, Ok, Err}
use Rattle.std.proofs.lemmas.Bool.{cases_lt}
use Rattle.std.proofs.lemmas.Fmt.{decimal_is_IsNumeral, decimal_nonempty, decimal_digit, decimal-digits_value, decimal_injective, first_decimal, parse-decimal}
use Rattle.std.proofs.lemmas.Str.Parse.{IsNumeralModel, digit_at, numerals_by_value, tells_digits, parse_plain}
use Rattle.std.specs.Bool.{then_some}
use Rattle.std.specs.Result.{OkIff}
use Rattle.std.specs.Int.{IsInRange}
use Rattle.std.specs.Str.Parse.{AllDigits, digits_value, ParsesUnsigned}

own : IsNumeralModel (AllDigits 10) (digits_value 10)
own = numerals_by_value (AllDigits 10) tells_digits

-- a word that has neither a sign nor a leading zero
pub record IsPlain (word : List ℕ) : Type 0 where
  pub some : 0 < length word
  pub sign : get_or word 0 0 ≢ 43
  pub zero_alone : get_or word 0 0 ≡ 48 → length word ≡ 1

pub decimal_plain : (n : ℕ) → n < 2 ^ 64 → IsPlain (decimal n)
decimal_plain n small =
    let some = decimal_nonempty n small in
    let first : IsInRange 48 57 (get_or (decimal n) 0 0) = digit_at (decimal n) 0 (decimal_is_IsNumeral n small).0.1 some in
    record {
      some = some;
      sign = λ e. absurd (omega arith);
      zero_alone = λ e.
          elim (cases_lt 0 n) [
            | inl more ↦ let high = first_decimal n more small in absurd (omega arith)
            | inr none ↦ let is : n ≡ 0 = omega arith in ap (λ (k : ℕ). length (decimal k)) is ∙ ap length (decimal_digit 0 (omega arith))
          ];
    }

pub number_found : (word text : List ℕ) (n : ℕ) → text ≡ word → IsPlain word → ParsesUnsigned {E = ℕ} 32 10 text (Ok n) → (n < 2 ^ 32) × (word ≡ decimal n)
number_found word text n same plain parses =
    let told : ParsesUnsigned {E = ℕ} 32 10 word (Ok n) = subst (λ (t : List ℕ). ParsesUnsigned {E = ℕ} 32 10 t (Ok n)) same parses in
    let found : OkIff {E = ℕ} (Ok n) (AllDigits 10 word × (0 < length word) × (digits_value 10 word < 2 ^ 32)) (digits_value 10 word) = parse_plain own {E = ℕ} 32 word (Ok n) told plain.sign in
    let small : digits_value 10 word < 2 ^ 32 = found.0.2 in
    let value : n ≡ digits_value 10 word = found.1 in
    (omega arith, sym (decimal-digits_value own word found.0.0 plain.some plain.zero_alone (omega arith)) ∙ ap decimal (sym value))

apart : (r : Result ℕ ℕ) (n : ℕ) → r ≡ Err 0 → r ≡ Ok n → ⊥
apart r n h k = absurd (cc)

pub number_missing : (word text : List ℕ) → text ≡ word → ParsesUnsigned {E = ℕ} 32 10 text (Err 0) → (n : ℕ) → n < 2 ^ 32 → word ≡ decimal n → ⊥
number_missing word text same parses n small is =
    apart (Err 0) n refl (parse-decimal {E = ℕ} 32 n text (Err 0) small (omega arith) (same ∙ is) parses)

-- a number is kept where it is of the range
pub kept : (word : List ℕ) (number low high : ℕ) (b : Bool) (r : Option ℕ) → number < 2 ^ 32 → high < 2 ^ 32 → word ≡ decimal number → IsTrue b ↔ ((low ≤ number) × (number ≤ high)) → r ≡ then_some b number → MatchOption r ((n : ℕ) → low ≤ n → n ≤ high → word ≢ decimal n) (λ n. (low ≤ n) × (n ≤ high) × (word ≡ decimal n))
kept word number low high true r small most e t is =
    let within = t.0 refl in
    subst (λ (q : Option ℕ). MatchOption q ((n : ℕ) → low ≤ n → n ≤ high → word ≢ decimal n) (λ n. (low ≤ n) × (n ≤ high) × (word ≡ decimal n))) (sym is) (within.0, within.1, e)
kept word number low high false r small most e t is =
    subst (λ (q : Option ℕ). MatchOption q ((n : ℕ) → low ≤ n → n ≤ high → word ≢ decimal n) (λ n. (low ≤ n) × (n ≤ high) × (word ≡ decimal n))) (sym is)
    (λ n l h other.
    let same = decimal_injective n number (omega arith) (omega arith) (sym other ∙ e) in
    let least : low ≤ number = omega arith in
    let last : number ≤ high = omega arith in
    let yes : false ≡ true = t.1 (least, last) in cc)
