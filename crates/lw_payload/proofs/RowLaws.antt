use Rattle.std.proofs.Common.{◌≡◌, ℕ, ◌+◌, ◌<◌, ◌≤◌, Bool, true, false, not, cond, eqb, List, [], ◌∷◌, suc, length, get_or, refl, ap, ◌∙◌, ⊎_elim, ne_eqb, arith}
use Rattle.std.specs.List.{sum_by, range_with_len}
use Rattle.std.proofs.lemmas.List.Sums.{sum_by-cons, sum_by-le-sum_by}
use Rattle.std.proofs.lemmas.Bool.{cases_lt}
use Rattle.std.proofs.lemmas.List.FromFn.{length-range_with_len}
use Rattle.lw_payload.specs.declared.kinds.Kind.{Kind}
use Rattle.lw_payload.specs.Views.{Slot, no_rows, free_of, used_of}

-- a sum of noughts
pub sum_of_nothing : {X : Type 0} (f : X → ℕ) → ((x : X) → f x ≡ 0) → (xs : List X) → sum_by f xs ≡ 0
sum_of_nothing f none [] = refl
sum_of_nothing f none (x ∷ xs) = let e = sum_by-cons f x xs in let n = none x in let r = sum_of_nothing f none xs in omega arith

-- a sum of sums
pub sum_of_both : {X : Type 0} (f g h : X → ℕ) → ((x : X) → h x ≡ f x + g x) → (xs : List X) → sum_by h xs ≡ sum_by f xs + sum_by g xs
sum_of_both f g h both [] = refl
sum_of_both f g h both (x ∷ xs) =
    let a = sum_by-cons f x xs in
    let b = sum_by-cons g x xs in
    let c = sum_by-cons h x xs in
    let e = both x in
    let r = sum_of_both f g h both xs in
    omega arith

-- 1 for a number above 0
abbrev pub some_of : ℕ → ℕ
some_of n = cond (not (eqb n 0)) 1 0

some_of-least : (n : ℕ) → 0 < n → some_of n ≡ 1
some_of-least n some = let e = ne_eqb n 0 (λ e. absurd (omega arith)) in rw e refl

some_of-none : (n : ℕ) → n ≡ 0 → some_of n ≡ 0
some_of-none n none = rw none refl

some_of-grows : (m n : ℕ) → (0 < m → 0 < n) → some_of m ≤ some_of n
some_of-grows m n grows = ⊎_elim (λ some. let a = some_of-least m some in let b = some_of-least n (grows some) in omega arith) (λ none. let a = some_of-none m (omega arith) in omega arith) (cases_lt 0 m)

pub some_of-le : (n : ℕ) → some_of n ≤ n
some_of-le n = ⊎_elim (λ some. let a = some_of-least n some in omega arith) (λ none. let a = some_of-none n (omega arith) in omega arith) (cases_lt 0 n)

some_of-both : (l m n : ℕ) → l ≡ m + n → some_of l ≤ some_of m + some_of n
some_of-both l m n e =
    ⊎_elim (λ some. let a = some_of-grows l m (λ more. some) in omega arith) (λ none. let a = some_of-grows l n (λ more. omega arith) in omega arith) (cases_lt 0 m)

-- a sum over a range of a kind's slots
sum_le : (f g : ℕ → ℕ) (n : ℕ) → ((i : ℕ) → f i ≤ g i) → sum_by f (range_with_len 0 n) ≤ sum_by g (range_with_len 0 n)
sum_le f g n less = sum_by-le-sum_by f g (range_with_len 0 n) less

-- a sum of ones
sum_of_ones : {X : Type 0} (xs : List X) → sum_by (λ x. 1) xs ≡ length xs
sum_of_ones [] = refl
sum_of_ones {X} (x ∷ xs) = let e = sum_by-cons (λ (y : X). 1) x xs in let r = sum_of_ones xs in omega arith

-- no rows use no slot
pub no_rows_few : (kind : Kind) (n m : ℕ) → used_of no_rows kind n ≤ m
no_rows_few kind n m = let e = sum_of_nothing (λ (i : ℕ). 0) (λ i. refl) (range_with_len 0 n) in omega arith

-- rows at fewer slots use fewer
pub used_of-le : (f g : Slot → ℕ) (kind : Kind) (n : ℕ) → ((s : Slot) → 0 < f s → 0 < g s) → used_of f kind n ≤ used_of g kind n
used_of-le f g kind n less =
    sum_le (λ (i : ℕ). some_of (f (record { kind = kind; place = i }))) (λ (i : ℕ). some_of (g (record { kind = kind; place = i }))) n
    (λ i. some_of-grows _ _ (less (record { kind = kind; place = i })))

-- there are as many rows as slots that they use, or more
pub used_of-rows : (f : Slot → ℕ) (kind : Kind) (n : ℕ) → used_of f kind n ≤ sum_by (λ i. f (record { kind = kind; place = i })) (range_with_len 0 n)
used_of-rows f kind n =
    sum_le (λ (i : ℕ). some_of (f (record { kind = kind; place = i }))) (λ (i : ℕ). f (record { kind = kind; place = i })) n (λ i. some_of-le _)

-- the rows of two payloads use no more slots than they use one by one
pub used_of-plus : (f g h : Slot → ℕ) (kind : Kind) (n : ℕ) → ((s : Slot) → h s ≡ f s + g s) → used_of h kind n ≤ used_of f kind n + used_of g kind n
used_of-plus f g h kind n both =
    let F : ℕ → ℕ = λ i. some_of (f (record { kind = kind; place = i })) in
    let G : ℕ → ℕ = λ i. some_of (g (record { kind = kind; place = i })) in
    let less = sum_le (λ i. some_of (h (record { kind = kind; place = i }))) (λ i. F i + G i) n (λ i. some_of-both _ _ _ (both (record { kind = kind; place = i }))) in
    let sum = sum_of_both F G (λ i. F i + G i) (λ i. refl) (range_with_len 0 n) in
    omega arith

-- each slot has rows or is free
pub used_of-free_of : (f : Slot → ℕ) (kind : Kind) (n : ℕ) → used_of f kind n + free_of f kind n ≡ n
used_of-free_of f kind n =
    let F : ℕ → ℕ = λ i. some_of (f (record { kind = kind; place = i })) in
    let G : ℕ → ℕ = λ i. cond (eqb (f (record { kind = kind; place = i })) 0) 1 0 in
    let sum = sum_of_both F G (λ i. 1) (λ i. either_way (eqb (f (record { kind = kind; place = i })) 0)) (range_with_len 0 n) in
    let ones = sum_of_ones (range_with_len 0 n) in
    let len = length-range_with_len 0 n in
    omega arith
  where
    either_way : (t : Bool) → 1 ≡ cond {A = ℕ} (not t) 1 0 + cond {A = ℕ} t 1 0
    either_way true = refl
    either_way false = refl

-- a sum over places is a sum over what stands at them
pub sum_by_places : (f q : ℕ → ℕ) (xs : List ℕ) (a : ℕ) → ((k : ℕ) → k < length xs → q (a + k) ≡ f (get_or xs k 0)) → sum_by q (range_with_len a (length xs)) ≡ sum_by f xs
sum_by_places f q [] a at = refl
sum_by_places f q (x ∷ xs) a at =
    let first : q a ≡ f x = ap q (omega arith) ∙ at 0 (omega arith) in
    let rest = sum_by_places f q xs (a + 1) (λ k within. ap q (omega arith) ∙ at (suc k) (omega arith)) in
    let l = sum_by-cons q a (range_with_len (a + 1) (length xs)) in
    let r = sum_by-cons f x xs in
    omega arith
