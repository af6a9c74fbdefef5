-- A range of two lists, one behind the other.
use Rattle.std.proofs.Common.{ℕ, zero, suc, ◌≡◌, ◌+◌, ◌-◌, ◌++◌, ◌∙◌, List, [], ◌∷◌, length, take, drop, max, refl, ap, length-drop, arith}

-- what is behind the first n
drop_both : (n : ℕ) (a b : List ℕ) → drop n (a ++ b) ≡ drop n a ++ drop (n - length a) b
drop_both zero a b = let none : 0 - length a ≡ 0 = omega arith in rw none refl
drop_both (suc n) [] b = let same : suc n - 0 ≡ suc n = omega arith in rw same refl
drop_both (suc n) (x ∷ xs) b = let same : suc n - length (x ∷ xs) ≡ n - length xs = omega arith in rw same (drop_both n xs b)

-- the first n
take_both : (n : ℕ) (a b : List ℕ) → take n (a ++ b) ≡ take n a ++ take (n - length a) b
take_both zero a b = let none : 0 - length a ≡ 0 = omega arith in rw none refl
take_both (suc n) [] b = let same : suc n - 0 ≡ suc n = omega arith in rw same refl
take_both (suc n) (x ∷ xs) b =
    let same : suc n - length (x ∷ xs) ≡ n - length xs = omega arith in rw same (ap (λ l. x ∷ l) (take_both n xs b))

-- a range of both: that of the first, and behind it what is left of it in the second
pub range_of_both : (from len begun left : ℕ) (a b : List ℕ) → begun ≡ max from (length a) → left ≡ from + len - begun
    → take len (drop from (a ++ b)) ≡ take len (drop from a) ++ take left (drop (begun - length a) b)
range_of_both from len begun left a b is rest =
    let front = length-drop from a in
    let place : from - length a ≡ begun - length a = omega arith in
    let many : len - length (drop from a) ≡ left = omega arith in
    ap (take len) (drop_both from a b) ∙ take_both len (drop from a) (drop (from - length a) b) ∙ rw (place, many) refl
