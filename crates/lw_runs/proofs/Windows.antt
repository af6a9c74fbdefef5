use Rattle.std.proofs.Common.{◌≡◌, ℕ, zero, suc, ◌+◌, ◌-◌, ◌<◌, ◌≤◌, min, Bool, false, ◌||◌, ◌&&◌, nat_lt, List, [], ◌∷◌, ◌++◌, map, length, take, drop, Option, Some, None, is_some, refl, sym, ap, ◌∙◌, inl, inr, subst, arith}
use Rattle.std.specs.List.{list_any}
use Rattle.std.proofs.lemmas.Bool.{cases_lt}
use Rattle.std.proofs.lemmas.Bool.Decides.{nat_tests}
use Rattle.std.proofs.Math.Bool.{or-false}
use Rattle.std.proofs.Math.Seq.{take-append-add, drop-append-add}
use Rattle.std.proofs.lemmas.List.{take-append-le, drop-append-le, take_all, drop_all, length-drop, length-take, take-map, drop-map}
use Rattle.std.proofs.lemmas.List.Folds.{list_any-append}
use Rattle.lw_runs.specs.Positions.{missing}

-- an octet is there from place i on, before place j
abbrev pub there : List (Option ℕ) → ℕ → ℕ → Bool
there xs i j = list_any is_some (take (j - i) (drop i xs))

behind : (xs ys : List (Option ℕ)) (k j : ℕ) → there (xs ++ ys) (length xs + k) j ≡ (there xs (length xs + k) j || there ys k (j - length xs))
behind xs ys k j =
    let none : drop (length xs + k) xs ≡ [] = drop_all (length xs + k) xs (omega arith) in
    let nothing : take (j - (length xs + k)) (drop (length xs + k) xs) ≡ [] = rw none (take_all (j - (length xs + k)) [] (omega arith)) in
    let width : j - (length xs + k) ≡ j - length xs - k = omega arith in
    rw (drop-append-add xs ys k, nothing, width) refl

within : (xs ys : List (Option ℕ)) (i j : ℕ) → i ≤ length xs → there (xs ++ ys) i j ≡ (there xs i j || there ys 0 (j - length xs))
within xs ys i j h =
    let front : drop i (xs ++ ys) ≡ drop i xs ++ ys = drop-append-le i xs ys h in
    let width : j - length xs - 0 ≡ j - length xs = omega arith in
    let size = length-drop i xs in
    elim (cases_lt (length (drop i xs)) (j - i)) [
      | inl more ↦
          let parts : j - i ≡ length (drop i xs) + (j - length xs) = omega arith in
          let all : take (j - i) (drop i xs) ≡ drop i xs = take_all (j - i) (drop i xs) (omega arith) in
          let both : take (j - i) (drop i xs ++ ys) ≡ drop i xs ++ take (j - length xs) ys =
          rw parts (take-append-add (drop i xs) ys (j - length xs)) in
          rw (front, both, all, width) (list_any-append is_some (drop i xs) (take (j - length xs) ys))
      | inr less ↦
          let short : take (j - i) (drop i xs ++ ys) ≡ take (j - i) (drop i xs) = take-append-le (j - i) (drop i xs) ys less in
          let none : j - length xs ≡ 0 = omega arith in
          rw (front, short, none) (sym (or-false (there xs i j)))
    ]

-- in joined lists it is there in the one or in the other
pub there-append : (xs ys : List (Option ℕ)) (i j : ℕ) → there (xs ++ ys) i j ≡ (there xs i j || there ys (i - length xs) (j - length xs))
there-append xs ys i j =
    elim (cases_lt (length xs) i) [
      | inl far ↦
          let e : i ≡ length xs + (i - length xs) = omega arith in
          subst (λ (n : ℕ). there (xs ++ ys) n j ≡ (there xs n j || there ys (i - length xs) (j - length xs))) (sym e) (behind xs ys (i - length xs) j)
      | inr near ↦
          let e : i - length xs ≡ 0 = omega arith in
          rw e (within xs ys i j near)
    ]

none_taken : (n : ℕ) (xs : List (Option ℕ)) → list_any is_some xs ≡ false → list_any is_some (take n xs) ≡ false
none_taken zero xs e = refl
none_taken (suc n) [] e = refl
none_taken (suc n) (None ∷ xs) e = none_taken n xs e
none_taken (suc n) (Some x ∷ xs) e = e

none_dropped : (n : ℕ) (xs : List (Option ℕ)) → list_any is_some xs ≡ false → list_any is_some (drop n xs) ≡ false
none_dropped zero xs e = e
none_dropped (suc n) [] e = refl
none_dropped (suc n) (None ∷ xs) e = none_dropped n xs e
none_dropped (suc n) (Some x ∷ xs) e = absurd (let f = e in cc)

missing_none : (n : ℕ) → list_any is_some (missing n) ≡ false
missing_none zero = refl
missing_none (suc n) = missing_none n

-- nothing is there where octets are missing
pub there-missing : (n i j : ℕ) → there (missing n) i j ≡ false
there-missing n i j = none_taken (j - i) (drop i (missing n)) (none_dropped i (missing n) (missing_none n))

any_some : (xs : List ℕ) → list_any is_some (map Some xs) ≡ nat_lt 0 (length xs)
any_some [] = refl
any_some (x ∷ xs) = sym (let h : 0 < length (x ∷ xs) = omega arith in grind (arith, nat_tests))

-- of octets all of which are there
pub there-some : (xs : List ℕ) (i j : ℕ) → there (map Some xs) i j ≡ nat_lt 0 (min (j - i) (length xs - i))
there-some xs i j =
    let size : length (take (j - i) (drop i xs)) ≡ min (j - i) (length xs - i) = length-take (j - i) (drop i xs) ∙ ap (λ n. min (j - i) n) (length-drop i xs) in
    rw (drop-map Some i xs, take-map Some (j - i) (drop i xs), any_some (take (j - i) (drop i xs)), size) refl

-- a run from at to end has a position from `from` on, before `to`
pub between : (at end from to n : ℕ) → end ≡ at + n → at < end → from < to → nat_lt 0 (min (to - at - (from - at)) (n - (from - at))) ≡ (nat_lt at to && nat_lt from end)
between at end from to n e some more = grind (arith, nat_tests)
