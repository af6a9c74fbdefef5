-- Each step on a count keeps the rule.
use Rattle.std.proofs.Common.{◌≡◌, ◌≢◌, ℕ, zero, suc, ◌+◌, ◌-◌, ◌%◌, ◌^◌, ◌<◌, ◌≤◌, Bool, true, false, cond, eqb, List, [], ◌∷◌, get_or, set, sum_by, refl, sym, ap, ◌∙◌, subst, arith, eq-eqb, ne_eqb}
use mathlib.Core.Logic.{dite}
use mathlib.Core.Option.{none, some}
use native.Mathlib.Decide.{ℕ_discrete}
use lib.ListN.{get_elem?}
use prog.Atomic.{either}
use Rattle.atomic_table.specs.Table.{State, Me, step, keeps, Allows}
use Rattle.pbuf_counts.specs.declared.rule.View.{View}
use Rattle.pbuf_counts.specs.Owners.{claim_weight, first_adds, owns, may_own, count_of, times, living}
use Rattle.pbuf_counts.specs.Rule.{Ruled}
use Rattle.pbuf_counts.specs.Plays.{finding, fewer, ending, tried, added, left, looked}
use Rattle.pbuf_counts.proofs.Sums.{at_most_sum}
use Rattle.pbuf_counts.proofs.Holdings.{owns_here, owns_else, owns_none, may_here, may_else, may_none, times_here, times_else, living_some, fits_at, none_may, few, begun_by, count_alone, lives_alone, is_count}
use Rattle.pbuf_counts.proofs.Keeps.{Alike, moves}

-- a change at the place i leaves the other pbufs as they were
elsewhere : (k i : ℕ) (v w : View) → k ≢ i → v.place ≡ i → w.place ≡ i → w.got ≡ v.got → w.ended ≡ v.ended → Alike k v w
elsewhere k i v w other here there got ended = let no : v.place ≢ k = λ e. other (sym e ∙ here) in let no' : w.place ≢ k = λ e. other (sym e ∙ there) in record {
  same_owns = owns_else k w no' ∙ sym (owns_else k v no);
  same_may = may_else k w no' ∙ sym (may_else k v no);
  same_got = ap (times k) got;
  same_ended = ap (times k) ended;
}

-- w has one owner of the pbuf i less than v, and is else as it was
record Lower (i : ℕ) (v w : View) : Type 0 where
  pub here : owns i w + 1 ≡ v.owners
  pub may : may_own i w ≤ may_own i v
  pub others : (k : ℕ) → k ≢ i → (owns k w ≡ owns k v) × (may_own k w ≡ may_own k v)
  pub idle : w.owners ≡ 0 → w.adds ≡ 0
  pub heavy : w.owners + w.adds ≤ v.owners + v.adds
  pub weight : w.weight ≡ v.weight
  pub rights : w.rights ≡ v.rights
  pub got : w.got ≡ v.got
  pub ended : w.ended ≡ v.ended

lower_fewer : (i : ℕ) (v : View) → v.place ≡ i → 0 < v.owners → Lower i v (fewer v)
lower_fewer i v here owner = let rests : View = record v { place = 0; owners = 0; adds = 0 } in let left : View = record v { owners = v.owners - 1 } in
    let a = may_here i v here in dite (ℕ_discrete v.owners 1)
    (λ one. subst (λ (b : Bool). Lower i v (cond b rests left)) (sym (eq-eqb v.owners 1 one)) record {
      here = let z = owns_none i rests refl in omega arith;
      may = let z = may_none i rests refl refl in omega arith;
      others = λ k other. let no : v.place ≢ k = λ e. other (sym e ∙ here) in (owns_none k rests refl ∙ sym (owns_else k v no), may_none k rests refl refl ∙ sym (may_else k v no));
      idle = λ _. refl;
      heavy = omega arith;
      weight = refl;
      rights = refl;
      got = refl;
      ended = refl;
    })
    (λ more. subst (λ (b : Bool). Lower i v (cond b rests left)) (sym (ne_eqb v.owners 1 more)) record {
      here = let z = owns_here i left here in omega arith;
      may = let z = may_here i left here in omega arith;
      others = λ k other. let no : v.place ≢ k = λ e. other (sym e ∙ here) in (owns_else k left no ∙ sym (owns_else k v no), may_else k left no ∙ sym (may_else k v no));
      idle = λ z. absurd (omega arith);
      heavy = omega arith;
      weight = refl;
      rights = refl;
      got = refl;
      ended = refl;
    })

module _ {S : Type 0} (n : ℕ) where
  abbrev Rule : State S View → Type 0
  Rule = Ruled n

  -- a step that leaves the word as it is, and a holder that knows what it found
  quiet : (s : State S View) (r : Rule s) (id i x : ℕ) (v : View) → get_elem? s.views id ≡ some v → i < n → x ≡ get_or s.words i 0
      → Rule record { words = set s.words i x; homes = s.homes; views = set s.views id (finding i (get_or s.words i 0) v) }
  quiet s r id i x v at inside same = let f = fits_at s.views id v r.list.each at in let e = ap living same in let l = r.list.limit i in
      moves n s r id i x v (finding i (get_or s.words i 0) v) at inside record { idle = f.idle; heavy = f.heavy; gone = f.gone; bare = f.bare }
      (λ k _. record { same_owns = refl; same_may = refl; same_got = refl; same_ended = refl }) (omega arith) (omega arith) (omega arith) refl refl

  pub tries : (slots id : ℕ) (me : Me S View) (i : ℕ) → i < n → me.0.owners ≡ 0 → me.0.rights ≡ 1 → claim_weight < me.0.weight
      → Allows Rule slots id me i (λ x. either (eqb x 0) 1 x) (tried (step slots i 0 1 none) me)
  tries slots id me i inside idle right heavy s r deep at _ = let v : View = me.0 in let x : ℕ = get_or s.words i 0 in let y : ℕ = either (eqb x 0) 1 x in let hs : List View = s.views in let o = r.list in let f = fits_at hs id v o.each at in
      let count = r.count i in let most = few hs o i in dite (ℕ_discrete x 0)
      (λ free. let w : View = record v { place = i; owners = 1; adds = first_adds; got = i ∷ v.got } in let is : y ≡ 1 = ap (λ b. either b 1 x) (eq-eqb x 0 free) in
      let a = owns_none i v idle in let b = owns_here i w refl in let c = may_none i v idle (f.idle idle) in let d = may_here i w refl in let none = none_may hs o i (sym count ∙ free) in
      let t = times_here i v.got in let g = ap living is in let h = ap living free in (
        w,
        keeps,
        tt,
        moves n s r id i y v w at inside record { idle = λ z. absurd (omega arith); heavy = omega arith; gone = λ z. absurd (omega arith); bare = λ z. absurd (omega arith) }
            (λ k other. let no : i ≢ k = λ e. other (sym e) in record {
              same_owns = owns_else k w no ∙ sym (owns_none k v idle);
              same_may = may_else k w no ∙ sym (may_none k v idle (f.idle idle));
              same_got = times_else k i v.got other;
              same_ended = refl;
            }) (omega arith) (omega arith) (omega arith) refl refl,
        (omega arith, is_count hs o id i x v at count, (λ _. refl), (λ used. absurd (used free))),
      ))
      (λ used. let is : y ≡ x = ap (λ b. either b 1 x) (ne_eqb x 0 used) in (
        finding i x v,
        keeps,
        tt,
        quiet s r id i y v at inside is,
        (
          omega arith,
          is_count hs o id i x v at count,
          (λ free. absurd (used free)),
          (λ _. (let a = begun_by hs o i id v at right in let l = o.lives i in let g = living_some (count_of i hs) (omega arith) in omega arith, refl)),
        ),
      ))

  pub adds : (slots id : ℕ) (me : Me S View) (i : ℕ) → i < n → me.0.place ≡ i → me.0.owners ≡ 1 → 0 < me.0.adds
      → Allows Rule slots id me i (λ x. (x + 1) % 2 ^ 64) (added (step slots i 1 0 none) me)
  adds slots id me i inside here one left_over s r deep at _ = let v : View = me.0 in let w : View = record v { owners = 2; adds = v.adds - 1 } in let x : ℕ = get_or s.words i 0 in let f = fits_at s.views id v r.list.each at in
      let a = owns_here i v here in let b = owns_here i w here in let c = may_here i v here in let d = may_here i w here in let l = r.list.limit i in let m = few s.views r.list i in let e = r.count i in
      let least = at_most_sum (owns i) s.views id v at in let next : (x + 1) % 2 ^ 64 ≡ x + 1 = Rattle.std.proofs.Common.mod-eq_of_lt (omega arith) in let p = living_some x (omega arith) in let q = living_some ((x + 1) % 2 ^ 64) (omega arith) in
      let heavy = f.heavy in (
        w,
        keeps,
        tt,
        moves n s r id i ((x + 1) % 2 ^ 64) v w at inside record { idle = λ z. absurd (omega arith); heavy = omega arith; gone = f.gone; bare = f.bare } (λ k other. elsewhere k i v w other here here refl refl)
            (omega arith) (omega arith) (omega arith) refl refl,
        refl,
      )

  pub looks : (slots id : ℕ) (me : Me S View) (i : ℕ) → i < n → Allows Rule slots id me i (λ x. x) (looked (step slots i 0 0 none) me)
  looks slots id me i inside s r deep at _ = let v : View = me.0 in let x : ℕ = get_or s.words i 0 in let hs : List View = s.views in (
    finding i x v,
    keeps,
    tt,
    quiet s r id i x v at inside refl,
    (
      let m = few hs r.list i in let e = r.count i in omega arith,
      is_count hs r.list id i x v at (r.count i),
      (λ all. (r.count i ∙ count_alone hs r.list id v at all i, lives_alone hs r.list id v at all i ∙ ap (λ (c : ℕ). times i v.ended + living c) (sym (r.count i)))),
      refl,
    ),
  )

  -- one owner less
  lowers : (s : State S View) (r : Rule s) (id i y q : ℕ) (v w : View) (e : List ℕ) → get_elem? s.views id ≡ some v → i < n → v.place ≡ i → 0 < v.owners → Lower i v w → y + 1 ≡ get_or s.words i 0
      → ((k : ℕ) → k ≢ i → times k e ≡ times k v.ended) → times i e + living y ≡ times i v.ended + 1
      → Rule record { words = set s.words i y; homes = s.homes; views = set s.views id (finding v.place q (record w { ended = e })) }
  lowers s r id i y q v w e at inside placed owner low less others ends = let own = owns_here i v placed in let f = fits_at s.views id v r.list.each at in let heavy = f.heavy in let lh = low.heavy in let lw = low.weight in let here = low.here in let may = low.may in let l = r.list.limit i in
      let p = living_some (get_or s.words i 0) (omega arith) in let g = ap (times i) low.got in let least = at_most_sum (owns i) s.views id v at in
      moves n s r id i y v (finding v.place q (record w { ended = e })) at inside record { idle = low.idle; heavy = omega arith; gone = λ z. absurd (omega arith); bare = λ z. low.got ∙ f.bare (sym low.rights ∙ z) }
      (λ k other. let z = low.others k other in record { same_owns = z.0; same_may = z.1; same_got = ap (times k) low.got; same_ended = others k other })
      (omega arith) (omega arith) (omega arith) low.weight low.rights

  pub leaves : (slots id : ℕ) (me : Me S View) (i : ℕ) → i < n → me.0.place ≡ i → 0 < me.0.owners
      → Allows Rule slots id me i (λ x. (x + (2 ^ 64 - 1)) % 2 ^ 64) (left (step slots i 1 0 none) me)
  leaves slots id me i inside here owner s r deep at _ = let v : View = me.0 in let x : ℕ = get_or s.words i 0 in let hs : List View = s.views in let y : ℕ = (x + (2 ^ 64 - 1)) % 2 ^ 64 in
      let count = r.count i in let most = few hs r.list i in let mine = owns_here i v here in let least = at_most_sum (owns i) hs id v at in
      let less : y + 1 ≡ x = omega arith in let low = lower_fewer i v here owner in
      let after : Bool → Type 0 = λ b. Rule record { words = set s.words i y; homes = s.homes; views = set hs id (finding v.place x (cond b (ending v) (fewer v))) } in (
        finding v.place x (cond (eqb x 1) (ending v) (fewer v)),
        keeps,
        tt,
        dite (ℕ_discrete x 1)
            (λ one. subst after (sym (eq-eqb x 1 one)) (let none : y ≡ 0 = omega arith in let g = ap living none in let t = ap (λ k. times i (k ∷ v.ended)) here ∙ times_here i v.ended in
            lowers s r id i y x v (fewer v) (v.place ∷ v.ended) at inside here owner low less (λ k other. times_else k v.place v.ended (λ e. other (e ∙ here))) (omega arith)))
            (λ more. subst after (sym (ne_eqb x 1 more)) (let g = living_some y (omega arith) in let t = ap (times i) low.ended in
            lowers s r id i y x v (fewer v) (fewer v).ended at inside here owner low less (λ k other. ap (times k) low.ended) (omega arith))),
        (omega arith, omega arith, is_count hs r.list id v.place x v at (count ∙ ap (λ k. count_of k hs) (sym here)), (λ one. omega arith), refl),
      )
