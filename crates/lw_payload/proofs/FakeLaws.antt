use Rattle.std.proofs.Common.{◌≡◌, ℕ, ◌+◌, ◌<◌, ◌≤◌, Bool, true, false, List, [], ◌∷◌, length, get_or, zero, suc, cond, eqb, eq-eqb, ne_eqb, zero-add, refl, sym, arith}
use Rattle.std.specs.List.{sum_by, range_with_len}
use Rattle.std.proofs.lemmas.List.Sums.{sum_by-cons, sum_by-le-sum_by}
use Rattle.std.proofs.lemmas.Bool.Decides.{nat_tests}
use Rattle.lw_payload.specs.declared.kinds.Kind.{Kind}
use Rattle.lw_payload.specs.declared.kinds.Kind.TheVariants.{Ram, Pool, Rom, Ref}
use Rattle.lw_payload.specs.Views.{Slot, free_of, used_of}
use Rattle.lw_payload.specs.Fake.{number_of, same_kind, times, free_count, counted_rows, held_rows, family_of, Hands}
use Rattle.lw_payload.proofs.RowLaws.{sum_of_nothing, sum_of_both, sum_by_places, used_of-rows}

-- two kinds with one number are one kind
pub same_kind_true : (a b : Kind) → same_kind a b ≡ true → a ≡ b
same_kind_true Ram Ram e = refl
same_kind_true Pool Pool e = refl
same_kind_true Rom Rom e = refl
same_kind_true Ref Ref e = refl
same_kind_true _ _ e = cc

-- one family has one kept kind
pub family_of_kind : (m n : ℕ) (a b : Kind) → family_of m a ≡ family_of n b → number_of a ≡ number_of b
family_of_kind m n a b e = cc

-- the owners of a payload that may be given with the pool are among the counts
pub owned : (counts places : List ℕ) (a b : Kind) → number_of a ≡ number_of b → ((s : Slot) → held_rows a places s ≤ counted_rows b counts s) → (place : ℕ) → times place places ≤ get_or counts place 0
owned counts places a b e listed place =
    let own : eqb (number_of b) (number_of a) ≡ true = eq-eqb (number_of b) (number_of a) (sym e) in
    let its : eqb (number_of b) (number_of b) ≡ true = eq-eqb (number_of b) (number_of b) refl in
    rw (own, its) at (listed (record { kind = b; place = place }))

-- one of two choices made alike
both_chosen : (t : Bool) (w x y z : ℕ) → w + x ≡ y + z → cond t w 0 + cond t x 0 ≡ cond t y 0 + cond t z 0
both_chosen true w x y z e = e
both_chosen false w x y z e = refl

-- what moves in the counts moves in the rows
pub rows_moved : (before after given taken : List ℕ) (a b : Kind) → number_of a ≡ number_of b → Hands before after given taken → (s : Slot) → counted_rows b after s + held_rows a given s ≡ counted_rows b before s + held_rows a taken s
rows_moved before after given taken a b e moves s =
    rw e (both_chosen (eqb (number_of s.kind) (number_of b)) (get_or after s.place 0) (times s.place given) (get_or before s.place 0) (times s.place taken) (moves.each s.place))

-- no place, no row
pub rows_of_none : (kind : Kind) (s : Slot) → held_rows kind [] s ≡ 0
rows_of_none kind s = nothing (eqb (number_of s.kind) (number_of kind))
  where
    nothing : (t : Bool) → cond {A = ℕ} t 0 0 ≡ 0
    nothing true = refl
    nothing false = refl

-- the pbufs without a row are those whose count is 0
pub free_of-counted : (counts : List ℕ) (a b : Kind) → number_of a ≡ number_of b → free_of (counted_rows b counts) a (length counts) ≡ free_count counts
free_of-counted counts a b e =
    let its : eqb (number_of a) (number_of b) ≡ true = eq-eqb (number_of a) (number_of b) e in
    sum_by_places (λ n. cond {A = ℕ} (eqb n 0) 1 0) (λ i. cond {A = ℕ} (eqb (counted_rows b counts (record { kind = a; place = i })) 0) 1 0) counts 0
    (λ k within. rw (its, zero-add k) refl)

-- a place that lies below a range isn't in it
none_in_range : (x a n : ℕ) → x < a → sum_by (λ i. cond {A = ℕ} (eqb x i) 1 0) (range_with_len a n) ≡ 0
none_in_range x a zero below = refl
none_in_range x a (suc n) below =
    let l = sum_by-cons (λ i. cond {A = ℕ} (eqb x i) 1 0) a (range_with_len (a + 1) n) in
    let r = none_in_range x (a + 1) n (omega arith) in
    let other : eqb x a ≡ false = ne_eqb x a (λ e. absurd (omega arith)) in
    rw (l, other, zero-add (sum_by (λ i. cond {A = ℕ} (eqb x i) 1 0) (range_with_len (a + 1) n))) r

-- a place is in a range once at most
once_in_range : (x a n : ℕ) → sum_by (λ i. cond {A = ℕ} (eqb x i) 1 0) (range_with_len a n) ≤ 1
once_in_range x a zero = omega arith
once_in_range x a (suc n) =
    let l = sum_by-cons (λ i. cond {A = ℕ} (eqb x i) 1 0) a (range_with_len (a + 1) n) in
    let later = once_in_range x (a + 1) n in
    let none = none_in_range x (a + 1) n in
    rw l (at_most_once x a (sum_by (λ i. cond {A = ℕ} (eqb x i) 1 0) (range_with_len (a + 1) n)) later none)
  where
    at_most_once : (x a rest : ℕ) → rest ≤ 1 → (x < a + 1 → rest ≡ 0) → cond {A = ℕ} (eqb x a) 1 0 + rest ≤ 1
    at_most_once x a rest later none = grind (arith, nat_tests)

-- the places in a list are as many as the list is long, or fewer
pub sum_of_times : (places : List ℕ) (n : ℕ) → sum_by (λ i. times i places) (range_with_len 0 n) ≤ length places
sum_of_times [] n = let e = sum_of_nothing (λ (i : ℕ). times i []) (λ i. refl) (range_with_len 0 n) in omega arith
sum_of_times (x ∷ xs) n =
    let both = sum_of_both (λ i. cond {A = ℕ} (eqb x i) 1 0) (λ i. times i xs) (λ i. times i (x ∷ xs)) (λ i. sum_by-cons (λ p. cond {A = ℕ} (eqb p i) 1 0) x xs) (range_with_len 0 n) in
    let one = once_in_range x 0 n in
    let rest = sum_of_times xs n in
    omega arith

-- the slots of a payload are no more than its places
pub used_of-held : (places : List ℕ) (kept kind : Kind) (n : ℕ) → used_of (held_rows kept places) kind n ≤ length places
used_of-held places kept kind n =
    let rows = used_of-rows (held_rows kept places) kind n in
    let less = sum_by-le-sum_by (λ i. held_rows kept places (record { kind = kind; place = i })) (λ i. times i places) (range_with_len 0 n) (λ i. chosen_less (eqb (number_of kind) (number_of kept)) (times i places)) in
    let most = sum_of_times places n in
    omega arith
  where
    chosen_less : (t : Bool) (m : ℕ) → cond {A = ℕ} t m 0 ≤ m
    chosen_less true m = omega arith
    chosen_less false m = omega arith
