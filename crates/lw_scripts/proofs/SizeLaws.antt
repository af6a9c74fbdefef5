-- Words in which no size stands behind a size's name are those of no size.
use Rattle.std.proofs.Common.{◌≡◌, ◌≢◌, ℕ, ◌≤◌, List, [], ◌∷◌, decimal, sym, ap, ◌∙◌, arith}
use Rattle.script_words.specs.Calls.{IsWithin}
use Rattle.script_words.proofs.Behind.{behind_first, same_first}
use Rattle.lw_scripts.specs.declared.parts.SizeName.{SizeName}
use Rattle.lw_scripts.specs.Parts.{least_of, most_of}
use Rattle.lw_scripts.specs.Spelling.{size_word, size_words}
use Rattle.lw_scripts.proofs.PartOnce.{size_name_once}

pub size_missing : (ws w1 w2 : List (List ℕ)) (word name : List ℕ) (n : SizeName) (low high : ℕ) → ws ≡ word ∷ w1 → w1 ≡ name ∷ w2 → name ≡ size_word n → low ≡ least_of n → high ≡ most_of n → ((m : ℕ) (rest : List (List ℕ)) → low ≤ m → m ≤ high → w2 ≢ decimal m ∷ rest) → (a : SizeName) (size : ℕ) → IsWithin (least_of a) (most_of a) size → ws ≢ size_words a size
size_missing ws w1 w2 word name n low high first second named least most none a size h e =
    let behind : w1 ≡ size_word a ∷ decimal size ∷ [] = behind_first e first in
    let rest : w2 ≡ decimal size ∷ [] = behind_first behind second in
    let word_same : name ≡ size_word a = same_first behind second in
    let same = size_name_once a n (sym word_same ∙ named) in
    let low_is = ap least_of same in
    let high_is = ap most_of same in
    let low_fits = h.0 in
    let high_fits = h.1 in
    none size [] (omega arith) (omega arith) rest
