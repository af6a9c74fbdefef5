-- What every step of one seat leaves of the rule.
use Rattle.std.proofs.Common.{◌≡◌, ◌≢◌, ℕ, ◌+◌, ◌*◌, ◌<◌, ◌≤◌, cond, ◌==◌, All, sum_by, List, [], ◌∷◌, ◌++◌, length, get_or, set, sym, refl, ap, ◌∙◌, subst, ⊎_elim, arith}
use Rattle.std.proofs.lemmas.Bool.Decides.{nat_tests}
use Rattle.std.proofs.lemmas.List.Elements.{All-nil}
use mathlib.Core.Option.{none, some, some-injective, some-ne-none}
use mathlib.Core.Option as maybe
use mathlib.Core.List.{IsPrefix}
use lib.ListN.{get_elem?}
use lib.Seq.{set-get_or}
use Rattle.atomic_table.specs.Table.{State}
use Rattle.atomic_table.proofs.Lists.{at_set, at_snoc, set_else}
use Rattle.hist_lock.specs.declared.table.Held.{Held}
use Rattle.hist_lock.specs.declared.table.Part.{Part}
use Rattle.hist_lock.specs.declared.table.View.{View}
use Rattle.hist_lock.specs.declared.table.Stage.{Stage}
use Rattle.hist_lock.specs.declared.table.Stage.TheVariants.{Idle, Inside}
use Rattle.hist_lock.specs.Histories.{Legal, IsKept, GrowsBy}
use Rattle.hist_lock.specs.Views.{enters, having, spent}
use Rattle.hist_lock.specs.Rule.{padding, below, Owns, IsUpToDate, Knows, Ruled}
use Rattle.hist_lock.proofs.Counts.{sum-set, sum-snoc, at_most_sum, two_at_most_sum}
use Rattle.hist_lock.proofs.Lists.{prefix_more, made_by-others, absent}

pub below_in : (n c : ℕ) → 1 ≤ below n c → n < c
below_in n c h = grind (arith, nat_tests)

pub below-le : (n c : ℕ) → below n c ≤ 1
below-le n c = grind (arith, nat_tests)

pub below-more : (n c : ℕ) → below n c + cond (c == n) 1 0 ≡ below n (c + 1)
below-more n c = grind (arith, nat_tests)

pub test_same : (n : ℕ) → ◌≡◌ {A = ℕ} (cond (n == n) 1 0) 1
test_same n = grind (arith, nat_tests)

-- a seat without the lock need not have seen the whole history
pub outside : {E : Type 0} (log : List E) (g : Stage) (ps : List (Part E)) → enters g ≡ 0 → IsUpToDate log g ps
outside log Idle ps h = tt
outside log Inside ps h = absurd (omega arith)

module _ {O E S T : Type 0} (state : O → S) (tag : O → T) (by : E → ℕ) (steps : S → E → S → Type 0) (start : O) where
  abbrev pub V : Type 0
  V = View O E

  abbrev pub St : Type 0
  St = State (Held O E) V

  abbrev pub Homes : Type 0
  Homes = List (maybe.Option (Held O E))

  abbrev pub Rule : St → Type 0
  Rule = Ruled state tag by steps start

  abbrev pub IsHome : Homes → List E → Type 0
  IsHome homes log = (k : Held O E) × (homes ≡ some k ∷ []) × IsKept state tag steps start k.object k.log.items × (k.log.items ≡ log)

  -- a step of one seat, from the view v to w
  pub moves : (s : St) (r : Rule s) (id : ℕ) (v w : V) (log' : List E) (taken' : ℕ) (words' : List ℕ) (homes' : Homes) → get_elem? s.views id ≡ some v
      → words' ≡ (2 * length log' + taken') ∷ padding → taken' + enters v.stage ≡ r.taken + enters w.stage → taken' ≤ 1 → (t : S) × Legal steps (state start) log' t → All (λ e. by e < r.callers) log'
      → length w.parts ≡ length v.parts → ((n : ℕ) → having n w ≡ having n v) → Knows by start log' r.callers w
      → ((j : ℕ) (x : V) → j ≢ id → get_elem? s.views j ≡ some x → Knows by start log' r.callers x)
      → (taken' ≡ 0 → IsHome homes' log') → (taken' ≡ 1 → homes' ≡ none ∷ [])
      → Rule record { words = words'; homes = homes'; views = set s.views id w }
  moves s r id v w log' taken' words' homes' at words taken one legal entries size numbers mine others home away = record {
    log = log';
    taken = taken';
    callers = r.callers;
    words = words;
    inside = omega (arith, sum-set (λ (x : V). enters x.stage) s.views id v w at, r.inside, taken);
    one = one;
    legal = legal;
    entries = entries;
    whole = omega (arith, sum-set (λ (x : V). length x.parts) s.views id v w at, r.whole);
    numbers = λ n. omega (arith, sum-set (having n) s.views id v w at, r.numbers n, numbers n);
    each = λ j x e. ⊎_elim (λ (t : (j ≡ id) × (w ≡ x)). subst (Knows by start log' r.callers) t.1 mine) (λ (t : (j ≢ id) × (get_elem? s.views j ≡ some x)). others j x t.0 t.1) (at_set s.views id j w x e);
    home = home;
    away = away;
  }

  -- a load, by which the lock stays with whom it is
  pub stays : (s : St) (r : Rule s) (i id : ℕ) (v w : V) → get_elem? s.views id ≡ some v → w.stage ≡ v.stage → length w.parts ≡ length v.parts → ((n : ℕ) → having n w ≡ having n v)
      → Knows by start r.log r.callers w → Rule record { words = set s.words i (get_or s.words i 0); homes = s.homes; views = set s.views id w }
  stays s r i id v w at same size numbers mine =
      moves s r id v w r.log r.taken (set s.words i (get_or s.words i 0)) s.homes at (set-get_or s.words i 0 ∙ r.words) (ap (λ (g : Stage). r.taken + enters g) (sym same)) r.one r.legal r.entries size numbers mine (λ j x _ e. r.each j x e) r.home r.away

  module _ (s : St) (r : Rule s) (id : ℕ) (v : V) (at : get_elem? s.views id ≡ some v) where
    pub has_lock : enters v.stage ≡ 1 → r.taken ≡ 1
    has_lock h = omega (arith, at_most_sum (λ (x : V). enters x.stage) s.views id v at, r.inside, r.one)

    pub others_outside : enters v.stage ≡ 1 → (j : ℕ) (x : V) → j ≢ id → get_elem? s.views j ≡ some x → enters x.stage ≡ 0
    others_outside h j x n e = omega (arith, two_at_most_sum (λ (x : V). enters x.stage) s.views id j v x n at e, r.inside, r.one)

    -- a number that stands with this seat stands with no other
    pub others_absent : (n : ℕ) → 1 ≤ having n v → (j : ℕ) (x : V) → j ≢ id → get_elem? s.views j ≡ some x → All (λ (p : Part E). p.number ≢ n) x.parts
    others_absent n h j x ne e = absent n x.parts (omega (arith, two_at_most_sum (having n) s.views id j v x ne at e, r.numbers n, below-le n r.callers))

    pub number-lt : (n : ℕ) → 1 ≤ having n v → n < r.callers
    number-lt n h = below_in n r.callers (omega (arith, at_most_sum (having n) s.views id v at, r.numbers n))

  -- what another seat knows when the history grows
  pub knows_longer : (log log' : List E) (callers n : ℕ) (x : V) → GrowsBy by n log log' → enters x.stage ≡ 0 → All (λ (p : Part E). p.number ≢ n) x.parts
      → Knows by start log callers x → Knows by start log' callers x
  knows_longer log log' callers n x g out absent k = record {
    same = k.same;
    hears = subst (IsPrefix x.told) (sym g.1) (prefix_more x.told log g.0 k.hears);
    current = outside log' x.stage x.parts out;
    heavy = k.heavy;
    owns = λ i d h. let o = k.owns i d h in let p : Part E = get_or x.parts i d in record {
      saw = subst (IsPrefix p.seen) (sym g.1) (prefix_more p.seen log g.0 o.saw);
      own = o.own;
      made = o.made ∙ sym (made_by-others by p.number n log log' (absent i d h) g);
      first = o.first;
    };
  }

  -- a seat is cut in two, and the second has not the lock
  pub splits : (s : St) (r : Rule s) (id : ℕ) (v left right : V) (callers' : ℕ) → get_elem? s.views id ≡ some v → left.stage ≡ v.stage → right.stage ≡ Idle → All (λ e. by e < callers') r.log
      → length left.parts + length right.parts + r.callers ≡ callers' + length v.parts → ((n : ℕ) → having n left + having n right + below n r.callers ≡ below n callers' + having n v)
      → Knows by start r.log callers' left → Knows by start r.log callers' right → ((j : ℕ) (x : V) → j ≢ id → get_elem? s.views j ≡ some x → Knows by start r.log callers' x)
      → Rule record { words = s.words; homes = s.homes; views = set s.views id left ++ right ∷ [] }
  splits s r id v left right callers' at same idle entries size numbers mine newer others =
      let adds : (f : V → ℕ) → sum_by f (set s.views id left ++ right ∷ []) + f v ≡ sum_by f s.views + f left + f right = λ f. omega (arith, sum-snoc f (set s.views id left) right, sum-set f s.views id v left at) in
      let a : enters left.stage ≡ enters v.stage = ap enters same in let b : enters right.stage ≡ 0 = ap enters idle in record {
        log = r.log;
        taken = r.taken;
        callers = callers';
        words = r.words;
        inside = omega (arith, adds (λ (x : V). enters x.stage), r.inside);
        one = r.one;
        legal = r.legal;
        entries = entries;
        whole = omega (arith, adds (λ (x : V). length x.parts), r.whole, size);
        numbers = λ n. omega (arith, adds (having n), r.numbers n, numbers n);
        each = λ j x e. ⊎_elim (λ (t : get_elem? (set s.views id left) j ≡ some x). ⊎_elim (λ (u : (j ≡ id) × (left ≡ x)). subst (Knows by start r.log callers') u.1 mine)
            (λ (u : (j ≢ id) × (get_elem? s.views j ≡ some x)). others j x u.0 u.1) (at_set s.views id j left x t)) (λ (t : right ≡ x). subst (Knows by start r.log callers') t newer) (at_snoc (set s.views id left) right x j e);
        home = r.home;
        away = r.away;
      }

  -- two seats without the lock become one
  pub joins : (s : St) (r : Rule s) (id other : ℕ) (v w both : V) → get_elem? s.views id ≡ some v → ¬ (other ≡ id) → get_elem? (set s.views id both) other ≡ some w
      → v.stage ≡ Idle → w.stage ≡ Idle → both.stage ≡ Idle → length both.parts ≡ length v.parts + length w.parts → ((n : ℕ) → having n both ≡ having n v + having n w)
      → (Knows by start r.log r.callers v → Knows by start r.log r.callers w → Knows by start r.log r.callers both)
      → Rule record { words = s.words; homes = s.homes; views = set (set s.views id both) other spent }
  joins s r id other v w both at apart at' v_idle w_idle both_idle size numbers knows =
      let at_w : get_elem? s.views other ≡ some w = sym (set_else s.views id other both apart) ∙ at' in
      let keeps : (f : V → ℕ) → f both + f spent ≡ f v + f w → sum_by f (set (set s.views id both) other spent) ≡ sum_by f s.views =
      λ f e. omega (arith, sum-set f s.views id v both at, sum-set f (set s.views id both) other w spent at', e) in
      let a : enters both.stage ≡ 0 = ap enters both_idle in let b : enters v.stage ≡ 0 = ap enters v_idle in let c : enters w.stage ≡ 0 = ap enters w_idle in record {
        log = r.log;
        taken = r.taken;
        callers = r.callers;
        words = r.words;
        inside = keeps (λ (x : V). enters x.stage) (omega arith) ∙ r.inside;
        one = r.one;
        legal = r.legal;
        entries = r.entries;
        whole = keeps (λ (x : V). length x.parts) (omega arith) ∙ r.whole;
        numbers = λ n. keeps (having n) (omega (arith, numbers n)) ∙ r.numbers n;
        each = λ j x e. ⊎_elim
            (λ (t : (j ≡ other) × (spent ≡ x)). subst (Knows by start r.log r.callers) t.1 record {
              same = λ h. absurd (omega arith);
              hears = (r.log, refl);
              current = tt;
              heavy = omega arith;
              owns = All-nil (Owns by r.log r.callers);
            })
            (λ (t : (j ≢ other) × (get_elem? (set s.views id both) j ≡ some x)). ⊎_elim (λ (u : (j ≡ id) × (both ≡ x)). subst (Knows by start r.log r.callers) u.1 (knows (r.each id v at) (r.each other w at_w)))
            (λ (u : (j ≢ id) × (get_elem? s.views j ≡ some x)). r.each j x u.1) (at_set s.views id j both x t.1)) (at_set (set s.views id both) other j spent x e);
        home = r.home;
        away = r.away;
      }
