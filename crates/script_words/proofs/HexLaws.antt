-- Digits in lower case spell the octets that they are decoded to.
use Rattle.std.proofs.Common.{◌≡◌, ◌≢◌, ◌≤◌, List, [], ◌∷◌, ◌++◌, ℕ, codes, length, Option, Some, None, MatchOption, Result, Ok, Err, IfOk, Bool, true, false, IsTrue, sym, ap, ◌∙◌, arith}
use Rattle.hex.specs.Hex.{IsBytes, decode_of, encode_lower, lower_digits}
use Rattle.hex.proofs.HexLemmas.{decode_of-encode_lower, decode_of-ok, length-encode_with}
use Rattle.call_types.specs.declared.call.Data.{Data}
use Rattle.call_types.specs.declared.call.Data.TheVariants.{Spelled}
use Rattle.script_words.specs.Values.{data_words}
use Rattle.script_words.specs.Calls.{IsData}

-- digits that aren't decoded are what no octets are spelled as
pub not_decoded : (digits : List ℕ) → ((octets : List ℕ) → decode_of digits ≢ Ok octets) → (octets : List ℕ) → IsBytes octets → digits ≢ encode_lower octets
not_decoded digits never octets h e = never octets (ap decode_of e ∙ decode_of-encode_lower octets h)

-- digits are what octets are spelled as only where they are what those are spelled as that they are decoded to
pub not_lower : (digits found : List ℕ) → decode_of digits ≡ Ok found → digits ≢ encode_lower found → (octets : List ℕ) → IsBytes octets → digits ≢ encode_lower octets
not_lower digits found is other octets h e =
    let back : decode_of digits ≡ Ok octets = ap decode_of e ∙ decode_of-encode_lower octets h in
    let same : found ≡ octets = cc in
    other (e ∙ ap encode_lower (sym same))

-- the digits of 1 to 1,500 octets are 2 to 3,000
pub counted_digits : (octets : List ℕ) → IsData (Spelled octets) → (2 ≤ length (encode_lower octets)) × (length (encode_lower octets) ≤ 3000)
counted_digits octets h =
    let n = length-encode_with lower_digits octets in
    let least = h.0.0 in let most = h.0.1 in
    (omega arith, omega arith)

-- and so many digits are of 1 to 1,500 octets
pub counted_octets : (digits octets : List ℕ) → digits ≡ encode_lower octets → IsBytes octets → 2 ≤ length digits → length digits ≤ 3000 → IsData (Spelled octets)
counted_octets digits octets e h least most =
    let n = length-encode_with lower_digits octets in
    let same = ap length e in
    ((omega arith, omega arith), h)

-- a word of digits is a word of octets
pub word_of_digits : {E : Type 0} (word digits : List ℕ) (r : Result (Option Data) E) → word ≡ codes "x:" ++ digits → IfOk r (λ q. MatchOption q ((octets : List ℕ) → IsData (Spelled octets) → digits ≢ encode_lower octets) (λ d. IsData d × ((codes "x:" ++ digits) ∷ [] ≡ data_words d))) → IfOk r (λ q. MatchOption q ((octets : List ℕ) → IsData (Spelled octets) → word ≢ codes "x:" ++ encode_lower octets) (λ d. IsData d × (word ∷ [] ≡ data_words d)))
word_of_digits word digits (Ok None) e h = λ octets k is. let same : digits ≡ encode_lower octets = cc in h octets k same
word_of_digits word digits (Ok (Some d)) e h = (h.0, ap (λ (t : List ℕ). t ∷ []) e ∙ h.1)
word_of_digits word digits (Err x) e h = h

-- a test that fails doesn't hold
pub not_same : (b : Bool) → b ≡ false → IsTrue b → ⊥
not_same b e h = absurd (cc)

-- what digits are decoded to is octets
pub decoded_bytes : (digits octets : List ℕ) → decode_of digits ≡ Ok octets → IsBytes octets
decoded_bytes digits octets e = (decode_of-ok digits octets e).3
