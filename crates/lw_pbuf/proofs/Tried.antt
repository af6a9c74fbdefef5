-- Places that are tried one after another.
use Rattle.std.proofs.Common.{◌≡◌, ℕ, zero, suc, ◌+◌, ◌<◌, ◌≤◌, Bool, true, false, cond, eqb, eq-eqb, eqb-true, List, [], ◌∷◌, ◌++◌, length, get_or, refl, sym, ap, ◌∙◌, subst, arith, append_assoc}
use Rattle.std.specs.List.{All, sum_by, range_with_len}
use Rattle.std.proofs.lemmas.Bool.{false≢true}
use Rattle.std.proofs.lemmas.List.Sums.{sum_by-cons, sum_by-append}
use Rattle.std.proofs.lemmas.List.Elements.{All-append, All-head, All-nil, All-tail, All-weaker}
use mathlib.Core.Logic.{dite}
use native.Mathlib.Decide.{dec_le}
use Rattle.lw_payload.specs.declared.kinds.Kind.{Kind}
use Rattle.lw_payload.specs.Views.{Slot}
use Rattle.lw_payload.proofs.FakeLaws.{sum_of_times}
use Rattle.pbuf_counts.specs.Owners.{times}
use Rattle.pbuf_counts.specs.Holders.{Known}
use Rattle.pbuf_seats.specs.Kept.{counts_of, rows_of, free_count}
use Rattle.pbuf_seats.specs.Seats.{SeatSeen}
use Rattle.lw_pbuf.specs.Takes.{is_counted, places_of, free_in, Claims, missed, use_at, IsTried, AreTried, AllTried}

times-both : (place : ℕ) (a b : List ℕ) → times place (a ++ b) ≡ times place a + times place b
times-both place a b = sum_by-append (λ (x : ℕ). cond {A = ℕ} (eqb x place) 1 0) a b

missed-both : (place : ℕ) (a b : List (ℕ × ℕ)) → missed place (a ++ b) ≡ missed place a + missed place b
missed-both place a b = sum_by-append (λ (m : ℕ × ℕ). cond {A = ℕ} (eqb m.0 place) 1 0) a b

pub times-here : (place : ℕ) → times place (place ∷ []) ≡ 1
times-here place = let e = sum_by-cons (λ (x : ℕ). cond {A = ℕ} (eqb x place) 1 0) place [] in let q = ap (λ (b : Bool). cond {A = ℕ} b 1 0) (eq-eqb place place refl) in omega arith

pub missed-here : (place n : ℕ) → missed place ((place, n) ∷ []) ≡ 1
missed-here place n = let e = sum_by-cons (λ (m : ℕ × ℕ). cond {A = ℕ} (eqb m.0 place) 1 0) (place, n) [] in let q = ap (λ (b : Bool). cond {A = ℕ} b 1 0) (eq-eqb place place refl) in omega arith

-- of two choices made alike
chosen : (b c : Bool) (x y x' y' : ℕ) → c ≡ b → x ≤ x' → y ≤ y' → cond b x y ≤ cond c x' y'
chosen true true x y x' y' e l m = l
chosen false false x y x' y' e l m = m
chosen true false x y x' y' e l m = absurd (false≢true e)
chosen false true x y x' y' e l m = absurd (false≢true (sym e))

pub on_true : (b : Bool) (x y : ℕ) → b ≡ true → 0 < x → 0 < cond b x y
on_true true x y e l = l
on_true false x y e l = absurd (false≢true e)

pub on_false : (b : Bool) (x y : ℕ) → b ≡ false → 0 < y → 0 < cond b x y
on_false false x y e l = l
on_false true x y e l = absurd (false≢true (sym e))

-- what is in use stays in use as more is tried
use_grows : (k l : SeatSeen) (kind : Kind) (got got' : List ℕ) (misses misses' : List (ℕ × ℕ)) (place : ℕ) → is_counted l kind ≡ is_counted k kind → ((s : Slot) → rows_of k.kept s ≤ rows_of l.kept s)
    → use_at k kind got misses place ≤ use_at l kind (got' ++ got) (misses' ++ misses) place
use_grows k l kind got got' misses misses' place same grows =
    chosen (is_counted k kind) (is_counted l kind) _ _ _ _ same (let a = times-both place got' got in let b = missed-both place misses' misses in omega arith) (grows (record { kind = kind; place = place }))

use_later : (l : SeatSeen) (kind : Kind) (got got' : List ℕ) (misses misses' : List (ℕ × ℕ)) (place : ℕ) → use_at l kind got' misses' place ≤ use_at l kind (got' ++ got) (misses' ++ misses) place
use_later l kind got got' misses misses' place =
    chosen (is_counted l kind) (is_counted l kind) _ _ _ _ refl (let a = times-both place got' got in let b = missed-both place misses' misses in omega arith) (omega arith)

-- what was claimed stays claimed
owned_later : (misses : List (ℕ × ℕ)) (got got' : List ℕ) → All (λ m. 0 < times m.0 got) misses → All (λ m. 0 < times m.0 (got' ++ got)) misses
owned_later misses got got' owned = All-weaker (λ (m : ℕ × ℕ). 0 < times m.0 got) (λ (m : ℕ × ℕ). 0 < times m.0 (got' ++ got)) (λ m some. let b = times-both m.0 got' got in omega arith) misses owned

-- claims and later ones
claims_both : (h k l : Known) (got got' : List ℕ) (misses misses' : List (ℕ × ℕ)) → Claims h k got misses → Claims k l got' misses' → Claims h l (got' ++ got) (misses' ++ misses)
claims_both h k l got got' misses misses' a b = record {
  gets = b.gets ∙ (ap (λ (x : List ℕ). got' ++ x) a.gets ∙ sym (append_assoc got' got h.got));
  finds = b.finds ∙ (ap (λ (x : List (ℕ × ℕ)). misses' ++ x) a.finds ∙ sym (append_assoc misses' misses h.found));
  in_use = All-append (λ (m : ℕ × ℕ). 0 < m.1) misses' misses b.in_use a.in_use;
  owned = All-append (λ (m : ℕ × ℕ). 0 < times m.0 l.got) misses' misses b.owned (subst (λ (x : List ℕ). All (λ m. 0 < times m.0 x) misses) (sym b.gets) (owned_later misses k.got got' a.owned));
}

pub claims_none : (h k : Known) → k ≡ h → Claims h k [] []
claims_none h k same = record {
  gets = ap (λ (x : Known). x.got) same;
  finds = ap (λ (x : Known). x.found) same;
  in_use = All-nil (λ (m : ℕ × ℕ). 0 < m.1);
  owned = All-nil (λ (m : ℕ × ℕ). 0 < times m.0 k.got);
}

pub tried_none : (h k : SeatSeen) (kind : Kind) (places from : ℕ) → k ≡ h → AreTried h k kind places from from
tried_none h k kind places from same = record {
  got = [];
  misses = [];
  claims = claims_none h.holder k.holder (ap (λ (x : SeatSeen). x.holder) same);
  first = λ p a b c. absurd (omega arith);
  again = λ p a b. absurd (omega arith);
}

-- one turn more
pub tried_more : (h k l : SeatSeen) (kind : Kind) (places from to next place : ℕ) → AreTried h k kind places from to → IsTried k l kind place → is_counted l kind ≡ is_counted k kind → ((s : Slot) → rows_of k.kept s ≤ rows_of l.kept s)
    → next ≡ to + 1 → (to < places → place ≡ to) → (places ≤ to → place + places ≡ to) → AreTried h l kind places from next
tried_more h k l kind places from to next place a t same grows step direct wrapped =
    let here : 0 < use_at l kind (t.got ++ a.got) (t.misses ++ a.misses) place = let u = t.used in let m = use_later l kind a.got t.got a.misses t.misses place in omega arith in
    let more = λ (p : ℕ). use_grows k l kind a.got t.got a.misses t.misses p same grows in
    record {
      got = t.got ++ a.got;
      misses = t.misses ++ a.misses;
      claims = claims_both h.holder k.holder l.holder a.got t.got a.misses t.misses a.claims t.claims;
      first = λ p x y z. dite (dec_le (suc p) to)
          (λ lt. let u = a.first p x lt z in let m = more p in omega arith)
          (λ no. subst (λ (q : ℕ). 0 < use_at l kind (t.got ++ a.got) (t.misses ++ a.misses) q) (let d = direct (omega arith) in omega arith) here);
      again = λ p x y. dite (dec_le (suc (p + places)) to)
          (λ lt. let u = a.again p x lt in let m = more p in omega arith)
          (λ no. subst (λ (q : ℕ). 0 < use_at l kind (t.got ++ a.got) (t.misses ++ a.misses) q) (let d = wrapped (omega arith) in omega arith) here);
    }

-- turns and the turns after them
pub tried_both : (h k l : SeatSeen) (kind : Kind) (places from to last : ℕ) → AreTried h k kind places from to → AreTried k l kind places to last → is_counted l kind ≡ is_counted k kind → ((s : Slot) → rows_of k.kept s ≤ rows_of l.kept s)
    → AreTried h l kind places from last
tried_both h k l kind places from to last a t same grows =
    let more = λ (p : ℕ). use_grows k l kind a.got t.got a.misses t.misses p same grows in
    let later = λ (p : ℕ). use_later l kind a.got t.got a.misses t.misses p in
    record {
      got = t.got ++ a.got;
      misses = t.misses ++ a.misses;
      claims = claims_both h.holder k.holder l.holder a.got t.got a.misses t.misses a.claims t.claims;
      first = λ p x y z. dite (dec_le (suc p) to)
          (λ lt. let u = a.first p x lt z in let m = more p in omega arith)
          (λ no. let u = t.first p (omega arith) y z in let m = later p in omega arith);
      again = λ p x y. dite (dec_le (suc (p + places)) to)
          (λ lt. let u = a.again p x lt in let m = more p in omega arith)
          (λ no. let u = t.again p (omega arith) y in let m = later p in omega arith);
    }

-- as many turns as there are places, one after another, are all places
pub tried_all : (h k : SeatSeen) (kind : Kind) (places from to : ℕ) → AreTried h k kind places from to → places ≡ places_of h kind → from ≤ places → to ≡ from + places → AllTried h k kind
tried_all h k kind places from to a is below all = record {
  got = a.got;
  misses = a.misses;
  claims = a.claims;
  each = λ p within. dite (dec_le from p) (λ le. a.first p le (omega arith) (omega arith)) (λ no. a.again p (omega arith) (omega arith));
}

zero_one : (b : Bool) (x : ℕ) → eqb x 0 ≡ b → 0 < x → cond {A = ℕ} b 1 0 ≡ 0
zero_one true x e some = absurd (let z = eqb-true x 0 e in omega arith)
zero_one false x e some = refl

-- counts of which each is above 0
pub none_free : (counts : List ℕ) → ((p : ℕ) → p < length counts → 0 < get_or counts p 0) → free_count counts ≡ 0
none_free [] each = refl
none_free (x ∷ cs) each =
    let r = none_free cs (λ p within. each (suc p) (omega arith)) in
    let z = zero_one (eqb x 0) x refl (each 0 (omega arith)) in
    let e = sum_by-cons (λ (y : ℕ). cond {A = ℕ} (eqb y 0) 1 0) x cs in
    omega arith

from_true : (b : Bool) (x y : ℕ) → b ≡ true → 0 < cond b x y → 0 < x
from_true true x y e l = l
from_true false x y e l = absurd (false≢true e)

from_false : (b : Bool) (x y : ℕ) → b ≡ false → 0 < cond b x y → 0 < y
from_false false x y e l = l
from_false true x y e l = absurd (false≢true (sym e))

to_true : (b : Bool) (x y p : ℕ) → b ≡ true → p < x → p < cond b x y
to_true true x y p e l = l
to_true false x y p e l = absurd (false≢true e)

to_false : (b : Bool) (x y p : ℕ) → b ≡ false → p < y → p < cond b x y
to_false false x y p e l = l
to_false true x y p e l = absurd (false≢true (sym e))

-- where all places of a kept kind were tried, none of its pbufs is free
pub kept_full : (h k : SeatSeen) (kind : Kind) → AllTried h k kind → is_counted h kind ≡ false → is_counted k kind ≡ is_counted h kind → length (counts_of kind k.kept) ≡ length (counts_of kind h.kept) → free_in k kind ≡ 0
kept_full h k kind a off same size = none_free (counts_of kind k.kept) (λ p within.
    from_false (is_counted k kind) (times p a.got + missed p a.misses) (get_or (counts_of kind k.kept) p 0) (same ∙ off) (a.each p (to_false (is_counted h kind) h.holder.table.words (length (counts_of kind h.kept)) p off (omega arith))))

-- where all places with atomic counts were tried, a claim was made at each
pub counted_full : (h k : SeatSeen) (kind : Kind) (a : AllTried h k kind) → is_counted h kind ≡ true → is_counted k kind ≡ is_counted h kind → (place : ℕ) → place < h.holder.table.words → 0 < times place a.got + missed place a.misses
counted_full h k kind a on same place within =
    from_true (is_counted k kind) (times place a.got + missed place a.misses) (get_or (counts_of kind k.kept) place 0) (same ∙ on) (a.each place (to_true (is_counted h kind) h.holder.table.words (length (counts_of kind h.kept)) place on within))

-- a miss at a place is one of a pbuf that was claimed
missed_here : (place x more : ℕ) (got : List ℕ) (b : Bool) → eqb x place ≡ b → 0 < times x got → (0 < more → 0 < times place got) → 0 < cond {A = ℕ} b 1 0 + more → 0 < times place got
missed_here place x more got true e owned rest some = subst (λ (p : ℕ). 0 < times p got) (eqb-true x place e) owned
missed_here place x more got false e owned rest some = rest (omega arith)

missed_owned : (place : ℕ) (got : List ℕ) (misses : List (ℕ × ℕ)) → All (λ m. 0 < times m.0 got) misses → 0 < missed place misses → 0 < times place got
missed_owned place got [] owned some = absurd (omega arith)
missed_owned place got (m ∷ ms) owned some =
    let e = sum_by-cons (λ (x : ℕ × ℕ). cond {A = ℕ} (eqb x.0 place) 1 0) m ms in
    missed_here place m.0 (missed place ms) got (eqb m.0 place) refl (All-head (λ (x : ℕ × ℕ). 0 < times x.0 got) m ms owned)
    (λ more. missed_owned place got ms (All-tail (λ (x : ℕ × ℕ). 0 < times x.0 got) m ms owned) more) (omega arith)

-- where claims were made at a place, the right to claim has claimed it
pub claimed_there : (h k : Known) (got : List ℕ) (misses : List (ℕ × ℕ)) (place : ℕ) → Claims h k got misses → 0 < times place got + missed place misses → 0 < times place k.got
claimed_there h k got misses place claims some =
    let all = ap (times place) claims.gets ∙ times-both place got h.got in
    dite (dec_le 1 (times place got)) (λ here. omega arith) (λ none. missed_owned place k.got misses claims.owned (omega arith))

-- a list in which each place below n stands has n elements at least
each_once : (f : ℕ → ℕ) (a n : ℕ) → ((i : ℕ) → a ≤ i → i < a + n → 0 < f i) → n ≤ sum_by f (range_with_len a n)
each_once f a zero each = omega arith
each_once f a (suc n) each =
    let e = sum_by-cons f a (range_with_len (a + 1) n) in
    let first = each a (omega arith) (omega arith) in
    let rest = each_once f (a + 1) n (λ i low high. each i (omega arith) (omega arith)) in
    omega arith

pub places_law : (n : ℕ) (xs : List ℕ) → ((place : ℕ) → place < n → 0 < times place xs) → n ≤ length xs
places_law n xs each =
    let least = each_once (λ (i : ℕ). times i xs) 0 n (λ i low high. each i (omega arith)) in
    let most = sum_of_times xs n in
    omega arith
