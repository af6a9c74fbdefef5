-- What stands behind a word of a line.
use Rattle.std.proofs.Common.{◌≡◌, ℕ, List, ◌∷◌, ◌++◌, codes}

pub behind_named : {name n a b : List ℕ} {ws rest more : List (List ℕ)} → name ∷ ws ≡ n ∷ (b ∷ more) → ws ≡ a ∷ rest → rest ≡ more
behind_named e f = cc

pub behind_first : {a b : List ℕ} {ws rest more : List (List ℕ)} → ws ≡ b ∷ more → ws ≡ a ∷ rest → rest ≡ more
behind_first e f = cc

pub same_first : {a b : List ℕ} {ws rest more : List (List ℕ)} → ws ≡ b ∷ more → ws ≡ a ∷ rest → a ≡ b
same_first e f = cc

pub same_digits : (word a b : List ℕ) → word ≡ codes "x:" ++ a → word ≡ codes "x:" ++ b → a ≡ b
same_digits word a b e f = cc
