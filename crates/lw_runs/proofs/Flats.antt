use Rattle.std.proofs.Common.{◌≡◌, ℕ, zero, suc, ◌+◌, ◌-◌, ◌<◌, ◌≤◌, List, [], ◌∷◌, ◌++◌, length, take, drop, set, insert, get_or, refl, sym, ap, ◌∙◌, arith, append_assoc}
use Rattle.std.proofs.Math.Seq.{take-append-add, drop-append-add}
use Rattle.std.proofs.lemmas.List.{take-append-le, drop-append-le, length-append}
use Rattle.std.proofs.lemmas.List.Edits.{insert-append_left, insert-append_right}
use Rattle.lw_runs.specs.Chunked.{flat}

-- one more in a chunk is one more of all
pub flat_set : {A : Type 0} (chunks : List (List A)) (k at : ℕ) (x : A) → k < length chunks → at ≤ length (get_or chunks k []) → flat (set chunks k (insert (get_or chunks k []) at x)) ≡ insert (flat chunks) (length (flat (take k chunks)) + at) x
flat_set [] k at x more within = absurd (omega arith)
flat_set (c ∷ cs) zero at x more within = let z : 0 + at ≡ at = omega arith in rw z (sym (insert-append_left c (flat cs) at x within))
flat_set (c ∷ cs) (suc k) at x more within =
    let size = length-append c (flat (take k cs)) in
    let e : length (c ++ flat (take k cs)) + at - length c ≡ length (flat (take k cs)) + at = omega arith in
    let behind = insert-append_right c (flat cs) (length c) (length (c ++ flat (take k cs)) + at) x refl (omega arith) in
    sym (behind ∙ rw e (ap (λ zs. c ++ zs) (sym (flat_set cs k at x (omega arith) within))))

-- two chunks in the place of one
pub flat_split : {A : Type 0} (chunks : List (List A)) (k : ℕ) (front back : List A) → k < length chunks → flat (insert (set chunks k front) (k + 1) back) ≡ flat (set chunks k (front ++ back))
flat_split [] k front back more = absurd (omega arith)
flat_split (c ∷ cs) zero front back more = sym (append_assoc front back (flat cs))
flat_split (c ∷ cs) (suc k) front back more = let e : suc k + 1 ≡ suc (k + 1) = omega arith in rw e (ap (λ zs. c ++ zs) (flat_split cs k front back (omega arith)))

-- all up to a place in a chunk
pub take_flat : {A : Type 0} (chunks : List (List A)) (k at : ℕ) → k < length chunks → at ≤ length (get_or chunks k []) → take (length (flat (take k chunks)) + at) (flat chunks) ≡ flat (take k chunks) ++ take at (get_or chunks k [])
take_flat [] k at more within = absurd (omega arith)
take_flat (c ∷ cs) zero at more within = let z : 0 + at ≡ at = omega arith in rw z (take-append-le at c (flat cs) within)
take_flat (c ∷ cs) (suc k) at more within =
    let size = length-append c (flat (take k cs)) in
    let e : length (c ++ flat (take k cs)) + at ≡ length c + (length (flat (take k cs)) + at) = omega arith in
    rw (e, take-append-add c (flat cs) (length (flat (take k cs)) + at), take_flat cs k at (omega arith) within) (sym (append_assoc c (flat (take k cs)) (take at (get_or cs k []))))

-- and all from there on
pub drop_flat : {A : Type 0} (chunks : List (List A)) (k at : ℕ) → k < length chunks → at ≤ length (get_or chunks k []) → drop (length (flat (take k chunks)) + at) (flat chunks) ≡ drop at (get_or chunks k []) ++ flat (drop (k + 1) chunks)
drop_flat [] k at more within = absurd (omega arith)
drop_flat (c ∷ cs) zero at more within = let z : 0 + at ≡ at = omega arith in rw z (drop-append-le at c (flat cs) within)
drop_flat (c ∷ cs) (suc k) at more within =
    let size = length-append c (flat (take k cs)) in
    let e : length (c ++ flat (take k cs)) + at ≡ length c + (length (flat (take k cs)) + at) = omega arith in
    let next : suc k + 1 ≡ suc (k + 1) = omega arith in
    rw (e, drop-append-add c (flat cs) (length (flat (take k cs)) + at), next) (drop_flat cs k at (omega arith) within)
