use Rattle.std.proofs.Common.{◌≡◌, ℕ, zero, suc, ◌-◌, ◌<◌, ◌≤◌, Bool, true, false, ◌||◌, ◌&&◌, nat_lt, nat_le, List, [], ◌∷◌, length, get_or, refl, sym, ap, ◌∙◌, subst, inl, inr, arith}
use Rattle.std.specs.List.{list_any, position_or_len}
use Rattle.std.specs.List.Sorted.{IsPartitionPoint, IsPartitionedBy}
use Rattle.std.proofs.lemmas.Bool.{cases_lt}
use Rattle.std.proofs.lemmas.Bool.Decides.{nat_tests}
use Rattle.std.proofs.lemmas.List.Sums.{position_or_len_is}
use Rattle.lw_payload.specs.Views.{View}
use Rattle.lw_runs.specs.Runs.{InOrder}
use Rattle.lw_runs.specs.declared.run.Run.{Run}
use Rattle.lw_runs.proofs.Spreads.{touches}
use Rattle.lw_runs.proofs.Places.{place-le}
use Rattle.lw_runs.proofs.Puts.{less, not_less}

pub at_most : (m n : ℕ) → m ≤ n → nat_le m n ≡ true
at_most m n h = grind (arith, nat_tests)

pub not_most : (m n : ℕ) → n < m → nat_le m n ≡ false
not_most m n h = grind (arith, nat_tests)

pub was_at_most : (m n : ℕ) → nat_le m n ≡ true → m ≤ n
was_at_most m n h = grind (arith, nat_tests)

pub was_more : (m n : ℕ) → nat_le m n ≡ false → n < m
was_more m n h = grind (arith, nat_tests)

-- a run of those in order begins at the first position or behind it, and ends behind it
begins : {P : Type 0} (seen : P → View) (a : ℕ) (runs : List (Run P)) (k : ℕ) (d : Run P) → InOrder seen a runs → k < length runs → (a ≤ (get_or runs k d).at) × (a < (get_or runs k d).end)
begins seen a [] k d order more = absurd (omega arith)
begins seen a (r ∷ rs) zero d order more = let low = order.0 in let some = order.1 in (low, omega arith)
begins seen a (r ∷ rs) (suc k) d order more =
    let low = order.0 in
    let some = order.1 in
    let rest = begins seen r.end rs k d order.3 (omega arith) in
    let at = rest.0 in
    let end = rest.1 in
    (omega arith, omega arith)

-- and at the beginning of each before it or behind
rises : {P : Type 0} (seen : P → View) (a : ℕ) (runs : List (Run P)) (i j : ℕ) (d : Run P) → InOrder seen a runs → i ≤ j → j < length runs → (get_or runs i d).at ≤ (get_or runs j d).at
rises seen a [] i j d order le more = absurd (omega arith)
rises seen a (r ∷ rs) zero zero d order le more = omega arith
rises seen a (r ∷ rs) zero (suc j) d order le more = let some = order.1 in let rest = (begins seen r.end rs j d order.3 (omega arith)).0 in omega arith
rises seen a (r ∷ rs) (suc i) zero d order le more = absurd (omega arith)
rises seen a (r ∷ rs) (suc i) (suc j) d order le more = rises seen r.end rs i j d order.3 (omega arith) (omega arith)

-- so those that begin at a position or before it come first
pub parted : {P : Type 0} (seen : P → View) (a : ℕ) (runs : List (Run P)) (from : ℕ) → InOrder seen a runs → IsPartitionedBy (λ r. nat_le r.at from) runs
parted seen a runs from order i j d le more e =
    let up = rises seen a runs i j d order le more in
    let low = was_at_most (get_or runs j d).at from e in
    at_most (get_or runs i d).at from (omega arith)

-- and where they part is the place of one more
pub place_is : {P : Type 0} (runs : List (Run P)) (from i : ℕ) → i ≤ length runs → IsPartitionPoint (λ r. nat_le r.at from ≡ true) (λ r. nat_le r.at from ≡ false) runs i → i ≡ position_or_len (λ r. nat_lt from r.at) runs
place_is [] from i within point = omega arith
place_is (r ∷ rs) from i within point =
    sym (position_or_len_is (λ s. nat_lt from s.at) (r ∷ rs) i r within
    (λ k lt. not_less from (get_or (r ∷ rs) k r).at (was_at_most (get_or (r ∷ rs) k r).at from (point.0 k r (omega arith) lt)))
    (λ lt. less from (get_or (r ∷ rs) i r).at (was_more (get_or (r ∷ rs) i r).at from (point.1 i r (omega arith) lt))))

-- none has a position before the first
none_before : {P : Type 0} (seen : P → View) (a : ℕ) (runs : List (Run P)) (from to : ℕ) → InOrder seen a runs → to ≤ a → list_any (touches from to) runs ≡ false
none_before seen a [] from to order low = refl
none_before seen a (r ∷ rs) from to order low =
    let at = order.0 in let some = order.1 in
    rw (not_less r.at to (omega arith), none_before seen r.end rs from to order.3 (omega arith)) refl

-- one more place in front of a run that begins at the last position or before it
pub next_place : {P : Type 0} (r : Run P) (rs : List (Run P)) (last : ℕ) → r.at ≤ last → position_or_len (λ s. nat_lt last s.at) (r ∷ rs) ≡ suc (position_or_len (λ s. nat_lt last s.at) rs)
next_place r rs last low = rw (not_less last r.at low) (omega arith)

-- one of two runs, the second of which ends behind the first
later_end : (from e f : ℕ) → e < f → (nat_lt from e || nat_lt from f) ≡ nat_lt from f
later_end from e f h = grind (arith, nat_tests)

-- a run in front of others: of all, the one before the place decides
before_place : {P : Type 0} (seen : P → View) (r : Run P) (rs : List (Run P)) (d : Run P) (from i : ℕ) (any : Bool) → InOrder seen r.end rs → i ≤ length rs → any ≡ (nat_lt 0 i && nat_lt from (get_or rs (i - 1) d).end)
    → (nat_lt from r.end || any) ≡ nat_lt from (get_or (r ∷ rs) i d).end
before_place seen r rs d from zero any order within e = rw e (grind (arith, nat_tests))
before_place seen r rs d from (suc i) any order within e =
    let at : suc i - 1 ≡ i = omega arith in
    let end = (begins seen r.end rs i d order (omega arith)).1 in
    let some : nat_lt 0 (suc i) ≡ true = less 0 (suc i) (omega arith) in
    rw (e, at, some) (later_end from r.end (get_or rs i d).end end)

-- a run has a position between two exactly where the last one that begins before the second ends behind the first
touches_at : {P : Type 0} (seen : P → View) (a : ℕ) (runs : List (Run P)) (d : Run P) (from to : ℕ) → from < to → InOrder seen a runs
    → (nat_lt 0 (position_or_len (λ r. nat_lt (to - 1) r.at) runs) && nat_lt from (get_or runs (position_or_len (λ r. nat_lt (to - 1) r.at) runs - 1) d).end) ≡ list_any (touches from to) runs
touches_at seen a [] d from to some order = refl
touches_at seen a (r ∷ rs) d from to some order =
    let has = order.1 in
    elim (cases_lt r.at to) [
      | inl lt ↦
          let i = position_or_len (λ s. nat_lt (to - 1) s.at) rs in
          let next = next_place r rs (to - 1) (omega arith) in
          let first : nat_lt 0 (suc i) ≡ true = less 0 (suc i) (omega arith) in
          let at : suc i - 1 ≡ i = omega arith in
          rw (next, first, at, less r.at to lt) (sym (before_place seen r rs d from i (list_any (touches from to) rs) order.3 (place-le (λ s. nat_lt (to - 1) s.at) rs) (sym (touches_at seen r.end rs d from to some order.3))))
      | inr ge ↦
          let none = less (to - 1) r.at (omega arith) in
          rw (none, not_less r.at to ge, none_before seen r.end rs from to order.3 (omega arith)) refl
    ]

-- the same at a place that is given
at_place : {P : Type 0} (seen : P → View) (runs : List (Run P)) (d : Run P) (from to i : ℕ) → from < to → InOrder seen 0 runs → i ≡ position_or_len (λ r. nat_lt (to - 1) r.at) runs
    → (nat_lt 0 i && nat_lt from (get_or runs (i - 1) d).end) ≡ list_any (touches from to) runs
at_place {P} seen runs d from to i some order e =
    subst (λ (j : ℕ). (nat_lt 0 j && nat_lt from (get_or runs (j - 1) d).end) ≡ list_any (touches from to) runs) (sym e) (touches_at seen 0 runs d from to some order)

-- where one begins before the second position
pub some_begins : {P : Type 0} (seen : P → View) (runs : List (Run P)) (d : Run P) (from to i : ℕ) → from < to → InOrder seen 0 runs → i ≡ position_or_len (λ r. nat_lt (to - 1) r.at) runs → 0 < i
    → nat_lt from (get_or runs (i - 1) d).end ≡ list_any (touches from to) runs
some_begins seen runs d from to i some order e first =
    sym (ap (λ b. b && nat_lt from (get_or runs (i - 1) d).end) (less 0 i first)) ∙ at_place seen runs d from to i some order e

-- and where none does
pub none_begins : {P : Type 0} (seen : P → View) (runs : List (Run P)) (from to i : ℕ) → from < to → InOrder seen 0 runs → i ≡ position_or_len (λ r. nat_lt (to - 1) r.at) runs → i ≤ 0
    → nat_lt 0 i ≡ list_any (touches from to) runs
none_begins seen [] from to i some order e first = not_less 0 i first
none_begins seen (r ∷ rs) from to i some order e first =
    let none = not_less 0 i first in
    none ∙ sym (ap (λ b. b && nat_lt from (get_or (r ∷ rs) (i - 1) r).end) none) ∙ at_place seen (r ∷ rs) r from to i some order e
