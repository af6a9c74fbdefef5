use Rattle.std.proofs.Common.{◌≡◌, ℕ, ◌+◌, ◌-◌, ◌^◌, ◌<◌, ◌≤◌, Bool, true, false, ◌||◌, ◌&&◌, nat_lt, List, [], ◌∷◌, ◌++◌, map, length, take, drop, Option, Some, None, if◌then◌else◌, refl, sym, ◌∙◌, inl, inr, arith, append_assoc}
use Rattle.std.specs.List.{list_any, All, sum_by}
use Rattle.std.proofs.lemmas.Bool.{cases_lt}
use Rattle.std.proofs.lemmas.Bool.Decides.{nat_tests}
use Rattle.std.proofs.lemmas.List.{take_all, drop_all, length-replicate, length-append, length-map}
use Rattle.std.proofs.lemmas.List.Sums.{sum_by-cons}
use Rattle.std.proofs.lemmas.List.Elements.{All-cons, All-head, All-tail}
use Rattle.lw_payload.specs.Views.{View}
use Rattle.lw_payload.specs.Totals.{stranger}
use Rattle.lw_runs.specs.Positions.{missing, with_octets}
use Rattle.lw_runs.specs.Kept.{Holds, parts_of, FirstCanTake}
use Rattle.lw_runs.specs.Runs.{spread, InOrder, bodies_of}
use Rattle.lw_runs.specs.Lists.{put}
use Rattle.lw_runs.specs.declared.run.Run.{Run}
use Rattle.lw_runs.proofs.Spreads.{touches, with-behind, with-before}

pub less : (m n : ℕ) → m < n → nat_lt m n ≡ true
less m n h = grind (arith, nat_tests)

pub not_less : (m n : ℕ) → n ≤ m → nat_lt m n ≡ false
not_less m n h = grind (arith, nat_tests)

neither : (a b : Bool) → (a || b) ≡ false → (a ≡ false) × (b ≡ false)
neither true b e = absurd (let f = e in cc)
neither false b e = (refl, e)

ends_before : (at end from to : ℕ) → (nat_lt at to && nat_lt from end) ≡ false → from < at → at < end → to ≤ at
ends_before at end from to none h some = grind (arith, nat_tests)

begins_behind : (at end from to : ℕ) → (nat_lt at to && nat_lt from end) ≡ false → at ≤ from → from < to → end ≤ from
begins_behind at end from to none h some = grind (arith, nat_tests)

-- a run that may be put among others: it begins at `a` or behind, has octets, and shares no position with them
pub record Fits {P : Type 0} (seen : P → View) (a : ℕ) (r : Run P) (runs : List (Run P)) : Type 0 where
  pub low : a ≤ r.at
  pub some : r.at < r.end
  pub size : r.end ≡ r.at + length (seen r.body).octets
  pub order : InOrder seen a runs
  pub free : list_any (touches r.at r.end) runs ≡ false

fits_rest : {P : Type 0} (seen : P → View) (a : ℕ) (r h : Run P) (t : List (Run P)) → Fits seen a r (h ∷ t) → h.at ≤ r.at → Fits seen h.end r t
fits_rest seen a r h t fits le =
    let parts = neither (touches r.at r.end h) (list_any (touches r.at r.end) t) fits.free in
    record {
      low = begins_behind h.at h.end r.at r.end parts.0 le fits.some;
      some = fits.some;
      size = fits.size;
      order = fits.order.3;
      free = parts.1;
    }

fits_before : {P : Type 0} (seen : P → View) (a : ℕ) (r h : Run P) (t : List (Run P)) → Fits seen a r (h ∷ t) → r.at < h.at → r.end ≤ h.at
fits_before seen a r h t fits lt =
    let parts = neither (touches r.at r.end h) (list_any (touches r.at r.end) t) fits.free in
    ends_before h.at h.end r.at r.end parts.0 lt fits.order.1

-- its octets are put in
pub spread_put : {P : Type 0} (seen : P → View) (a : ℕ) (r : Run P) (runs : List (Run P)) → Fits seen a r runs → spread seen a (put r runs) ≡ with_octets (spread seen a runs) (r.at - a) (seen r.body).octets
spread_put seen a r [] fits =
    let k = r.at - a in
    let none : List (Option ℕ) = [] in
    let t : take k none ≡ [] = take_all k none (omega arith) in
    let d : drop (k + length (seen r.body).octets) none ≡ [] = drop_all (k + length (seen r.body).octets) none (omega arith) in
    let z : k - 0 ≡ k = omega arith in
    rw (t, d, z) refl
spread_put seen a r (h ∷ t) fits =
    let xs = (seen r.body).octets in
    let ys = (seen h.body).octets in
    elim (cases_lt r.at h.at) [
      | inl lt ↦
          let before : r.end ≤ h.at = fits_before seen a r h t fits lt in
          let low = fits.low in
          let size = fits.size in
          let wide : h.at - a - (r.at - a + length xs) ≡ h.at - r.end = omega arith in
          rw (
            less r.at h.at lt,
            append_assoc (missing (h.at - a)) (map Some ys) (spread seen h.end t),
            with-before (h.at - a) (map Some ys ++ spread seen h.end t) (r.at - a) xs (omega arith),
            wide,
            append_assoc (missing (h.at - r.end)) (map Some ys) (spread seen h.end t),
          ) refl
      | inr ge ↦
          let rest = fits_rest seen a r h t fits ge in
          let behind = rest.low in
          let low = fits.order.0 in
          let size = fits.order.2 in
          let run : length (map Some ys) ≡ length ys = length-map ys Some in
          let gap : length (missing (h.at - a)) ≡ h.at - a = length-replicate (h.at - a) None in
          let front : r.at - a ≡ length (missing (h.at - a) ++ map Some ys) + (r.at - h.end) = let l = length-append (missing (h.at - a)) (map Some ys) in omega arith in
          rw (not_less r.at h.at ge, spread_put seen h.end r t rest, front) (sym (with-behind (missing (h.at - a) ++ map Some ys) (spread seen h.end t) (r.at - h.end) xs))
    ]

-- and all are in order
pub order_put : {P : Type 0} (seen : P → View) (a : ℕ) (r : Run P) (runs : List (Run P)) → Fits seen a r runs → InOrder seen a (put r runs)
order_put seen a r [] fits = (fits.low, fits.some, fits.size, tt)
order_put seen a r (h ∷ t) fits =
    elim (cases_lt r.at h.at) [
      | inl lt ↦
          let order : InOrder seen r.end (h ∷ t) = (fits_before seen a r h t fits lt, fits.order.1, fits.order.2, fits.order.3) in
          rw (less r.at h.at lt) (fits.low, fits.some, fits.size, order)
      | inr ge ↦
          rw (not_less r.at h.at ge) (fits.order.0, fits.order.1, fits.order.2, order_put seen h.end r t (fits_rest seen a r h t fits ge))
    ]

sum_step : {P : Type 0} (f : P → ℕ) (r h : Run P) (t rest : List (Run P)) (b : Bool) → sum_by f (bodies_of rest) ≡ f r.body + sum_by f (bodies_of t) → sum_by f (bodies_of (if b then r ∷ h ∷ t else h ∷ rest)) ≡ f r.body + sum_by f (bodies_of (h ∷ t))
sum_step f r h t rest true e = sum_by-cons f r.body (bodies_of (h ∷ t))
sum_step f r h t rest false e = let one = sum_by-cons f h.body (bodies_of rest) in let two = sum_by-cons f h.body (bodies_of t) in omega arith

-- sums over the payloads
pub sum_put : {P : Type 0} (f : P → ℕ) (r : Run P) (runs : List (Run P)) → sum_by f (bodies_of (put r runs)) ≡ f r.body + sum_by f (bodies_of runs)
sum_put f r [] = omega arith
sum_put f r (h ∷ t) = sum_step f r h t (put r t) (nat_lt r.at h.at) (sum_put f r t)

all_step : {P : Type 0} (Q : P → Type 0) (r h : Run P) (t rest : List (Run P)) (b : Bool) → Q r.body → All Q (bodies_of (h ∷ t)) → All Q (bodies_of rest) → All Q (bodies_of (if b then r ∷ h ∷ t else h ∷ rest))
all_step Q r h t rest true q all more = All-cons Q r.body (bodies_of (h ∷ t)) q all
all_step Q r h t rest false q all more = All-cons Q h.body (bodies_of rest) (All-head Q h.body (bodies_of t) all) more

-- what holds of each of them
pub all_put : {P : Type 0} (Q : P → Type 0) (r : Run P) (runs : List (Run P)) → Q r.body → All Q (bodies_of runs) → All Q (bodies_of (put r runs))
all_put Q r [] q all = All-cons Q r.body [] q all
all_put Q r (h ∷ t) q all = all_step Q r h t (put r t) (nat_lt r.at h.at) q all (all_put Q r t q (All-tail Q h.body (bodies_of t) all))

length_step : {P : Type 0} (r h : Run P) (t rest : List (Run P)) (b : Bool) → length rest ≡ length t + 1 → length (if b then r ∷ h ∷ t else h ∷ rest) ≡ length (h ∷ t) + 1
length_step r h t rest true e = omega arith
length_step r h t rest false e = omega arith

-- how many there are
pub length_put : {P : Type 0} (r : Run P) (runs : List (Run P)) → length (put r runs) ≡ length runs + 1
length_put r [] = omega arith
length_put r (h ∷ t) = length_step r h t (put r t) (nat_lt r.at h.at) (length_put r t)

-- they hold what they held, and what its payload holds
pub holds_put : {P : Type 0} (seen : P → View) (r : Run P) (runs : List (Run P)) → Holds seen (r.body ∷ bodies_of runs) (bodies_of (put r runs))
holds_put seen r runs = record {
  octets = let f = λ (p : _). length (seen p).octets in sum_put f r runs ∙ sym (sum_by-cons f r.body (bodies_of runs));
  parts = let f = λ (p : _). (seen p).parts in sum_put f r runs ∙ sym (sum_by-cons f r.body (bodies_of runs));
  rows = λ s. let f = λ (p : _). (seen p).rows s in sum_put f r runs ∙ sym (sum_by-cons f r.body (bodies_of runs));
  weight = let f = λ (p : _). (seen p).weight in sum_put f r runs ∙ sym (sum_by-cons f r.body (bodies_of runs));
  strangers = λ f. let g = λ (p : _). stranger f (seen p) in let e = sum_put g r runs in let l = sum_by-cons g r.body (bodies_of runs) in omega arith;
  family = λ f all. let Q = λ (p : _). (seen p).family ≡ f in all_put Q r runs (All-head Q r.body (bodies_of runs) all) (All-tail Q r.body (bodies_of runs) all);
  short = λ all. let Q = λ (p : _). length (seen p).octets < 2 ^ 32 in all_put Q r runs (All-head Q r.body (bodies_of runs) all) (All-tail Q r.body (bodies_of runs) all);
}

-- the first has room for all
pub first_put : {P : Type 0} (seen : P → View) (r : Run P) (runs : List (Run P)) → FirstCanTake seen (bodies_of runs) (seen r.body).parts → parts_of seen (bodies_of runs) ≤ (seen r.body).room → FirstCanTake seen (bodies_of (put r runs)) 0
first_put seen r [] first own = omega arith
first_put seen r (h ∷ t) first own = first_step (nat_lt r.at h.at)
  where
    first_step : (b : Bool) → FirstCanTake seen (bodies_of (if b then r ∷ h ∷ t else h ∷ put r t)) 0
    first_step true = omega arith
    first_step false = let sum = sum_put (λ p. (seen p).parts) r t in omega arith
