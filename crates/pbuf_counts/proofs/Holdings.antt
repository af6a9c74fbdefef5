-- What one holder owns, and what an owner list says of it.
use Rattle.std.proofs.Common.{◌≡◌, ◌≢◌, ℕ, zero, suc, ◌+◌, ◌≤◌, ◌<◌, Bool, true, false, cond, eqb, List, [], ◌∷◌, All, Contains, sum_by, refl, sym, ap, ◌∙◌, subst, arith, eq-eqb, ne_eqb}
use Rattle.std.proofs.lemmas.List.Sums.{sum_by-cons}
use mathlib.Core.Logic.{dite}
use mathlib.Core.Option.{some, some-injective, some-ne-none}
use native.Mathlib.Decide.{ℕ_discrete}
use lib.ListN.{get_elem?}
use Rattle.pbuf_counts.specs.declared.rule.View.{View}
use Rattle.pbuf_counts.specs.Owners.{whole, most_owners, owns, may_own, count_of, times, begun, living, Fits, IsOwnerList, IsCount}
use Rattle.pbuf_counts.proofs.Sums.{sum-none, sum-one, sum-le}

pub cond_true : (b : Bool) (x y : ℕ) → b ≡ true → cond b x y ≡ x
cond_true b x y e = ap (λ (c : Bool). cond c x y) e

pub cond_false : (b : Bool) (x y : ℕ) → b ≡ false → cond b x y ≡ y
cond_false b x y e = ap (λ (c : Bool). cond c x y) e

pub owns_here : (k : ℕ) (v : View) → v.place ≡ k → owns k v ≡ v.owners
owns_here k v e = cond_true (eqb v.place k) v.owners 0 (eq-eqb v.place k e)

pub owns_else : (k : ℕ) (v : View) → v.place ≢ k → owns k v ≡ 0
owns_else k v e = cond_false (eqb v.place k) v.owners 0 (ne_eqb v.place k e)

pub may_here : (k : ℕ) (v : View) → v.place ≡ k → may_own k v ≡ v.owners + v.adds
may_here k v e = cond_true (eqb v.place k) (v.owners + v.adds) 0 (eq-eqb v.place k e)

pub may_else : (k : ℕ) (v : View) → v.place ≢ k → may_own k v ≡ 0
may_else k v e = cond_false (eqb v.place k) (v.owners + v.adds) 0 (ne_eqb v.place k e)

pub owns_none : (k : ℕ) (v : View) → v.owners ≡ 0 → owns k v ≡ 0
owns_none k v e = dite (ℕ_discrete v.place k) (λ here. owns_here k v here ∙ e) (λ other. owns_else k v other)

pub may_none : (k : ℕ) (v : View) → v.owners ≡ 0 → v.adds ≡ 0 → may_own k v ≡ 0
may_none k v e a = dite (ℕ_discrete v.place k) (λ here. may_here k v here ∙ (λ i. e i + a i)) (λ other. may_else k v other)

pub owns_may : (k : ℕ) (v : View) → owns k v ≤ may_own k v
owns_may k v = dite (ℕ_discrete v.place k) (λ here. let a = owns_here k v here in let b = may_here k v here in omega arith) (λ other. let a = owns_else k v other in omega arith)

pub times_here : (k : ℕ) (xs : List ℕ) → times k (k ∷ xs) ≡ suc (times k xs)
times_here k xs = let s = sum_by-cons (λ (x : ℕ). cond (eqb x k) 1 0) k xs in let h = cond_true (eqb k k) 1 0 (eq-eqb k k refl) in omega arith

pub times_else : (k i : ℕ) (xs : List ℕ) → k ≢ i → times k (i ∷ xs) ≡ times k xs
times_else k i xs e = let s = sum_by-cons (λ (x : ℕ). cond (eqb x k) 1 0) i xs in let h = cond_false (eqb i k) 1 0 (ne_eqb i k (λ q. e (sym q))) in omega arith

pub living_some : (n : ℕ) → 0 < n → living n ≡ 1
living_some zero h = absurd (omega arith)
living_some (suc n) h = refl

pub stands_at : (hs : List View) (i : ℕ) (v : View) → get_elem? hs i ≡ some v → Contains hs v
stands_at [] i v e = absurd (some-ne-none v (sym e))
stands_at (x ∷ xs) zero v e = (0, omega arith, some-injective x v e)
stands_at (x ∷ xs) (suc i) v e = let t = stands_at xs i v e in let inside = t.1 in (suc t.0, omega arith, t.2)

pub fits_at : (hs : List View) (i : ℕ) (v : View) → All Fits hs → get_elem? hs i ≡ some v → Fits v
fits_at hs i v each e = let t = stands_at hs i v e in subst Fits t.2 (each t.0 v t.1)

module _ (hs : List View) (o : IsOwnerList hs) where
  -- a pbuf without an owner can't be added to
  pub none_may : (k : ℕ) → count_of k hs ≡ 0 → sum_by (may_own k) hs ≡ 0
  none_may k e = sum-none (owns k) (may_own k) hs e (λ j u at none. dite (ℕ_discrete u.place k)
      (λ here. let n : u.owners ≡ 0 = sym (owns_here k u here) ∙ none in may_none k u n ((fits_at hs j u o.each at).idle n)) (λ other. may_else k u other))

  pub few : (k : ℕ) → count_of k hs ≤ most_owners
  few k = let l = o.limit k in let m = sum-le (owns k) (may_own k) hs (owns_may k) in omega arith

  -- the holder of the right to claim knows all claims
  pub begun_by : (k id : ℕ) (v : View) → get_elem? hs id ≡ some v → v.rights ≡ 1 → begun k hs ≡ times k v.got
  begun_by k id v at right = sum-one (λ h. h.rights) (λ h. times k h.got) hs id v at (o.right ∙ sym right) (λ j u there none. ap (times k) ((fits_at hs j u o.each there).bare none))

  -- a holder of the whole weight is the only one with owners, claims and Lasts
  module _ (id : ℕ) (v : View) (at : get_elem? hs id ≡ some v) (all : v.weight ≡ whole) where
    one : (f : View → ℕ) → ((u : View) → Fits u → u.weight ≡ 0 → f u ≡ 0) → sum_by f hs ≡ f v
    one f h = sum-one (λ h. h.weight) f hs id v at (o.weights ∙ sym all) (λ j u there none. h u (fits_at hs j u o.each there) none)

    pub count_alone : (k : ℕ) → count_of k hs ≡ owns k v
    count_alone k = one (owns k) (λ u fits none. let heavy = fits.heavy in owns_none k u (omega arith))

    pub lives_alone : (k : ℕ) → times k v.got ≡ times k v.ended + living (count_of k hs)
    lives_alone k = sym (one (λ h. times k h.got) (λ u fits none. ap (times k) (fits.bare (fits.gone none).0)))
        ∙ (o.lives k ∙ ap (λ (n : ℕ). n + living (count_of k hs)) (one (λ h. times k h.ended) (λ u fits none. ap (times k) (fits.gone none).1)))

pub is_count : (hs : List View) (o : IsOwnerList hs) (id k n : ℕ) (v : View) → get_elem? hs id ≡ some v → n ≡ count_of k hs → IsCount k v n
is_count hs o id k n v at e = record { holders = hs; list = o; stands = stands_at hs id v at; count = e }
