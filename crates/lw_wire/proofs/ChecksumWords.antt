-- Words that are read with their low octet first, and as parts of longer ones: their sum folds to the right one with its octets swapped.
use Rattle.std.proofs.Common.{◌≡◌, ◌+◌, ◌*◌, ◌^◌, ◌/◌, ◌%◌, ◌<◌, ◌≤◌, ◌∷◌, [], zero, suc, ℕ, List, length, sum_by, take, drop, get_or, slice_index, refl, sym, ap, ◌∙◌, arith}
use Rattle.std.proofs.lemmas.List.{drop-drop, length-drop, length-take-le, take-append-drop}
use Rattle.std.proofs.lemmas.List.Sums.{sum_by-cons, sum_by_more}
use Rattle.std.proofs.Math.Nat.{div-mul-le_self}
use Rattle.std.specs.Int.{w16, w128, from_le_bytes, swap_bytes}
use Rattle.std.specs.Simd.{first_chunks}
use Rattle.byteorder.specs.Endian.{little_from}
use Rattle.byteorder.specs.Numbers.{little_from-cons}
use Rattle.lw_wire.specs.Checksum.{folded, ones_sum, word_sum}
use Rattle.lw_wire.proofs.ChecksumLaws.{folded-fits, folded-more, folded-same, folded-small, folded-times, folded-twice, sum_folds, word_sum-append}
use Rattle.lw_wire.specs.Fields.{AreOctets}

-- octets as one number, the lowest first
little_folds : (n : ℕ) (xs : List ℕ) → length xs ≡ n → folded (256 * little_from 0 n xs) ≡ folded (word_sum xs)
unfolding word_sum
little_folds zero [] len = refl
little_folds zero (a ∷ xs) len = absurd (omega arith)
little_folds (suc n) [] len = absurd (omega arith)
little_folds (suc zero) (a ∷ []) len = ap folded (omega arith)
little_folds (suc (suc n)) (a ∷ []) len = absurd (omega arith)
little_folds (suc zero) (a ∷ b ∷ xs) len = absurd (omega arith)
little_folds (suc (suc n)) (a ∷ b ∷ xs) len =
    let later = little_folds n xs (omega arith) in
    let moved : little_from 2 n (a ∷ b ∷ xs) ≡ little_from 0 n xs = little_from-cons 1 n a (b ∷ xs) ∙ little_from-cons 0 n b xs in
    let whole : ℕ = 256 * (a + 256 * (b + 256 * little_from 2 n (a ∷ b ∷ xs))) in
    let parts : folded whole ≡ folded (a * 256 + b + 256 * little_from 0 n xs) =
    folded-same whole (a * 256 + b + 256 * little_from 0 n xs) 0 (b + 256 * little_from 0 n xs) (omega arith) (λ h. omega arith) (λ h. omega arith) in
    parts ∙ folded-more (a * 256 + b) (a * 256 + b) (256 * little_from 0 n xs) (word_sum xs) refl later

-- a number by the words of 64 bits that it has
pub halves_fold : (x : ℕ) → folded (256 * (x % 2 ^ 64 + x / 2 ^ 64)) ≡ folded (256 * x)
halves_fold x =
    folded-same (256 * (x % 2 ^ 64 + x / 2 ^ 64)) (256 * x) (72058693566333184 * (x / 2 ^ 64)) 0 (omega arith) (λ h. omega arith) (λ h. omega arith)

-- a block of sixteen octets
pub block_folds : (block : List ℕ) (x : ℕ) → length block ≡ 16 → x ≡ from_le_bytes w128 block
    → folded (256 * (x % 2 ^ 64 + x / 2 ^ 64)) ≡ folded (word_sum block)
block_folds block x len is =
    let number : x ≡ little_from 0 16 block = omega arith in
    halves_fold x ∙ ap (λ (y : ℕ). folded (256 * y)) number ∙ little_folds 16 block len

-- a word
pub word_folds : (word : List ℕ) (x : ℕ) → length word ≡ 2 → x ≡ from_le_bytes w16 word → folded (256 * x) ≡ folded (word_sum word)
word_folds word x len is =
    let number : x ≡ little_from 0 2 word = omega arith in
    ap (λ (y : ℕ). folded (256 * y)) number ∙ little_folds 2 word len

-- a sum so far, and the next of the lists that it goes through
pub sum_folds_more : (lists : List (List ℕ)) (i s x : ℕ) → i < length lists → folded (256 * s) ≡ folded (sum_by word_sum (take i lists))
    → folded (256 * x) ≡ folded (word_sum (get_or lists i [])) → folded (256 * (s + x)) ≡ folded (sum_by word_sum (take (i + 1) lists))
sum_folds_more lists i s x there so_far next =
    let apart : 256 * (s + x) ≡ 256 * s + 256 * x = omega arith in
    ap folded apart
    ∙ folded-more (256 * s) (sum_by word_sum (take i lists)) (256 * x) (word_sum (get_or lists i [])) so_far next
    ∙ ap folded (sym (sum_by_more word_sum lists i [] there))

-- a last octet, or none
pub one_octet : (octets : List ℕ) → length octets ≡ 1 → 256 * slice_index octets 0 ≡ word_sum octets
unfolding word_sum
one_octet [] len = absurd (omega arith)
one_octet (a ∷ []) len = omega arith
one_octet (a ∷ b ∷ octets) len = absurd (omega arith)

pub no_octet : (octets : List ℕ) → length octets ≡ 0 → 0 ≡ word_sum octets
unfolding word_sum
no_octet [] len = refl
no_octet (a ∷ octets) len = absurd (omega arith)

-- the words of a list by its first k parts of n octets, whole words each, and what is left
pub word_sum-chunks : (n k : ℕ) (octets : List ℕ) → n % 2 ≡ 0 → k * n ≤ length octets
    → word_sum octets ≡ sum_by word_sum (first_chunks n k octets) + word_sum (drop (k * n) octets)
word_sum-chunks n zero octets even fits = let none : 0 * n ≡ 0 = omega arith in rw none (omega arith)
word_sum-chunks n (suc k) octets even fits =
    let split : suc k * n ≡ n + k * n = omega arith in
    let len = length-take-le n octets (omega arith) in
    let front : word_sum octets ≡ word_sum (take n octets) + word_sum (drop n octets) =
    ap word_sum (sym (take-append-drop n octets)) ∙ word_sum-append (take n octets) (drop n octets) (omega arith) in
    let later = word_sum-chunks n k (drop n octets) even (omega (arith, length-drop n octets)) in
    let behind : drop (k * n) (drop n octets) ≡ drop (suc k * n) octets = drop-drop (k * n) n octets ∙ ap (λ (m : ℕ). drop m octets) (sym split) in
    let sums = sum_by-cons word_sum (take n octets) (first_chunks n k (drop n octets)) in
    let last = ap word_sum behind in
    omega arith

-- the words of a list by all its parts of n octets, and what is left
pub word_sum-all_chunks : (n : ℕ) (octets rest : List ℕ) (chunks : List (List ℕ)) → n % 2 ≡ 0
    → chunks ≡ first_chunks n (length octets / n) octets → rest ≡ drop (length octets / n * n) octets
    → word_sum octets ≡ sum_by word_sum chunks + word_sum rest
word_sum-all_chunks n octets rest chunks even front back =
    rw (front, back) (word_sum-chunks n (length octets / n) octets even (div-mul-le_self (length octets) n))

-- the two octets of a word, swapped
pub swap_folds : (s : ℕ) → s < 65536 → swap_bytes w16 s ≡ folded (256 * s)
swap_folds s fits =
    sym (folded-small (s % 256 * 256 + s / 256 % 256) (omega arith))
    ∙ folded-same (s % 256 * 256 + s / 256 % 256) (256 * s) (s / 256) 0 (omega arith) (λ z. omega arith) (λ z. omega arith)

-- the sums of the parts of octets, folded and swapped, are the sum of all: blocks, words behind them, and a last octet
pub parts_fold : (octets rest last : List ℕ) (blocks words : List (List ℕ)) (a b x s : ℕ) → AreOctets octets
    → word_sum octets ≡ sum_by word_sum blocks + word_sum rest → word_sum rest ≡ sum_by word_sum words + word_sum last
    → folded (256 * a) ≡ folded (sum_by word_sum blocks) → folded (256 * b) ≡ folded (sum_by word_sum words) → 256 * x ≡ word_sum last
    → s ≡ folded (a + b + x) → swap_bytes w16 s ≡ ones_sum octets
parts_fold octets rest last blocks words a b x s small front behind first second third is =
    let fits : s < 65536 = rw is (folded-fits (a + b + x)) in
    let apart : 256 * (a + b + x) ≡ 256 * a + (256 * b + 256 * x) = omega arith in
    let whole : sum_by word_sum blocks + (sum_by word_sum words + word_sum last) ≡ word_sum octets = omega arith in
    swap_folds s fits
    ∙ folded-times s (a + b + x) (ap folded is ∙ folded-twice (a + b + x))
    ∙ ap folded apart
    ∙ folded-more (256 * a) (sum_by word_sum blocks) (256 * b + 256 * x) (sum_by word_sum words + word_sum last) first
    (folded-more (256 * b) (sum_by word_sum words) (256 * x) (word_sum last) second (ap folded third))
    ∙ ap folded whole
    ∙ sym (sum_folds octets small)
