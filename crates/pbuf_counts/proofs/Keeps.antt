-- The rule stays where a holder makes a step on one word, is cut in two, or takes in another.
use Rattle.std.proofs.Common.{◌≡◌, ◌≢◌, ℕ, zero, suc, ◌+◌, ◌<◌, ◌≤◌, List, [], ◌∷◌, ◌++◌, length, replicate, get_or, set, sum_by, refl, sym, ap, ◌∙◌, subst, arith, length-set, get_or-set_other, get_or-set_same}
use Rattle.std.proofs.lemmas.List.Sums.{sum_by_push}
use Rattle.std.proofs.lemmas.List.Elements.{All-set, All-push, All-cons, All-nil}
use mathlib.Core.Logic.{dite}
use mathlib.Core.Option.{some}
use native.Mathlib.Decide.{ℕ_discrete}
use lib.ListN.{get_elem?, length-replicate}
use Rattle.atomic_table.specs.Table.{State, opening}
use Rattle.pbuf_counts.specs.declared.rule.View.{View}
use Rattle.pbuf_counts.specs.Owners.{whole, most_owners, idle, owns, may_own, count_of, times, begun, over, living, Fits}
use Rattle.pbuf_counts.specs.Rule.{Ruled}
use Rattle.pbuf_counts.proofs.Sums.{sum-set}
use Rattle.pbuf_counts.proofs.Holdings.{owns_none, may_none}

-- two views say the same of the pbuf k
pub record Alike (k : ℕ) (v w : View) : Type 0 where
  pub same_owns : owns k w ≡ owns k v
  pub same_may : may_own k w ≡ may_own k v
  pub same_got : times k w.got ≡ times k v.got
  pub same_ended : times k w.ended ≡ times k v.ended

-- a holder that has become part of another
spent_fits : Fits (idle 0 0 [])
spent_fits = record { idle = λ _. refl; heavy = omega arith; gone = λ _. (refl, refl); bare = λ _. refl }

zeros : (n k : ℕ) → ◌≡◌ {A = ℕ} (get_or (replicate n 0) k 0) 0
zeros zero k = refl
zeros (suc n) zero = refl
zeros (suc n) (suc k) = zeros n k

module _ {S : Type 0} (n : ℕ) where
  abbrev Rule : State S View → Type 0
  Rule = Ruled n

  -- the holder v becomes w, and the word i becomes x
  pub moves : (s : State S View) (r : Rule s) (id i x : ℕ) (v w : View) → get_elem? s.views id ≡ some v → i < n → Fits w → ((k : ℕ) → k ≢ i → Alike k v w)
      → x + owns i v ≡ get_or s.words i 0 + owns i w
      → sum_by (may_own i) s.views + may_own i w ≤ most_owners + may_own i v
      → times i w.got + times i v.ended + living (get_or s.words i 0) ≡ times i v.got + times i w.ended + living x
      → w.weight ≡ v.weight → w.rights ≡ v.rights → Rule record { words = set s.words i x; homes = s.homes; views = set s.views id w }
  moves s r id i x v w at inside fits alike counts few lives weights rights = let hs : List View = s.views in let hs' : List View = set hs id w in let o = r.list in
      let sets = λ (f : View → ℕ). sum-set f hs id v w at in
      let now : count_of i hs' ≡ x = let a = sets (owns i) in let b = r.count i in omega arith in record {
        wide = length-set s.words i x ∙ r.wide;
        count = λ k. dite (ℕ_discrete k i)
            (λ same. let e = r.wide in subst (λ (j : ℕ). get_or (set s.words i x) j 0 ≡ count_of j hs') (sym same) (get_or-set_same s.words i x 0 (omega arith) ∙ sym now))
            (λ other. get_or-set_other s.words i k x 0 other ∙ (r.count k ∙ let a = sets (owns k) in let b = (alike k other).same_owns in omega arith));
        list = record {
          limit = λ k. dite (ℕ_discrete k i) (λ same. subst (λ (j : ℕ). sum_by (may_own j) hs' ≤ most_owners) (sym same) (let a = sets (may_own i) in omega arith))
              (λ other. let a = sets (may_own k) in let b = (alike k other).same_may in let c = o.limit k in omega arith);
          lives = λ k. dite (ℕ_discrete k i)
              (λ same. subst (λ (j : ℕ). begun j hs' ≡ over j hs' + living (count_of j hs')) (sym same)
              (let a = sets (λ h. times i h.got) in let b = sets (λ h. times i h.ended) in let c = o.lives i in let d = ap living now in let e = ap living (r.count i) in omega arith))
              (λ other. let l = alike k other in let a = sets (λ h. times k h.got) in let b = sets (λ h. times k h.ended) in let c = o.lives k in let g = l.same_got in let h = l.same_ended in
              let z = sets (owns k) in let y = l.same_owns in let d : count_of k hs' ≡ count_of k hs = omega arith in let e = ap living d in omega arith);
          right = let a = sets (λ h. h.rights) in let b = o.right in omega arith;
          weights = let a = sets (λ h. h.weight) in let b = o.weights in omega arith;
          each = All-set Fits hs id w fits o.each;
        };
      }

  -- the holder v is cut into l and u, which have together what it had
  pub divides : (s : State S View) (r : Rule s) (id : ℕ) (v l u : View) → get_elem? s.views id ≡ some v → Fits l → Fits u
      → ((k : ℕ) → owns k l + owns k u ≡ owns k v) → ((k : ℕ) → may_own k l + may_own k u ≡ may_own k v)
      → ((k : ℕ) → times k l.got + times k u.got ≡ times k v.got) → ((k : ℕ) → times k l.ended + times k u.ended ≡ times k v.ended)
      → l.weight + u.weight ≡ v.weight → l.rights + u.rights ≡ v.rights → Rule record { words = s.words; homes = s.homes; views = set s.views id l ++ u ∷ [] }
  divides s r id v l u at fits fits' owns_both may_both got_both ended_both weigh_both rights_both = let hs : List View = s.views in let hs' : List View = set hs id l ++ u ∷ [] in let o = r.list in
      let both : (f : View → ℕ) → f l + f u ≡ f v → sum_by f hs' ≡ sum_by f hs = λ f e. let a = sum-set f hs id v l at in let b = sum_by_push f (set hs id l) u in omega arith in record {
        wide = r.wide;
        count = λ k. r.count k ∙ sym (both (owns k) (owns_both k));
        list = record {
          limit = λ k. let a = both (may_own k) (may_both k) in let b = o.limit k in omega arith;
          lives = λ k. both (λ h. times k h.got) (got_both k) ∙ (o.lives k ∙ sym (λ i. both (λ h. times k h.ended) (ended_both k) i + living (both (owns k) (owns_both k) i)));
          right = both (λ h. h.rights) rights_both ∙ o.right;
          weights = both (λ h. h.weight) weigh_both ∙ o.weights;
          each = All-push Fits (set hs id l) u (All-set Fits hs id l fits o.each) fits';
        };
      }

  -- the holder v takes in w, which keeps nothing
  pub unites : (s : State S View) (r : Rule s) (id other : ℕ) (v w b : View) → get_elem? s.views id ≡ some v → other ≢ id → get_elem? (set s.views id b) other ≡ some w → Fits b
      → ((k : ℕ) → owns k b ≡ owns k v + owns k w) → ((k : ℕ) → may_own k b ≡ may_own k v + may_own k w)
      → ((k : ℕ) → times k b.got ≡ times k v.got + times k w.got) → ((k : ℕ) → times k b.ended ≡ times k v.ended + times k w.ended)
      → b.weight ≡ v.weight + w.weight → b.rights ≡ v.rights + w.rights → Rule record { words = s.words; homes = s.homes; views = set (set s.views id b) other (idle 0 0 []) }
  unites s r id other v w b at apart there fits owns_both may_both got_both ended_both weigh_both rights_both = let hs : List View = s.views in let gone : View = idle 0 0 [] in let hs' : List View = set (set hs id b) other gone in let o = r.list in
      let both : (f : View → ℕ) → f gone ≡ 0 → f b ≡ f v + f w → sum_by f hs' ≡ sum_by f hs = λ f z e. let a = sum-set f hs id v b at in let c = sum-set f (set hs id b) other w gone there in omega arith in record {
        wide = r.wide;
        count = λ k. r.count k ∙ sym (both (owns k) (owns_none k gone refl) (owns_both k));
        list = record {
          limit = λ k. let a = both (may_own k) (may_none k gone refl refl) (may_both k) in let b = o.limit k in omega arith;
          lives = λ k. both (λ h. times k h.got) refl (got_both k) ∙ (o.lives k ∙ sym (λ i. both (λ h. times k h.ended) refl (ended_both k) i + living (both (owns k) (owns_none k gone refl) (owns_both k) i)));
          right = both (λ h. h.rights) refl rights_both ∙ o.right;
          weights = both (λ h. h.weight) refl weigh_both ∙ o.weights;
          each = All-set Fits (set hs id b) other gone spent_fits (All-set Fits hs id b fits o.each);
        };
      }

  -- a table of zeros, with one holder
  pub starts : (ws : List ℕ) → ws ≡ replicate n 0 → Rule (opening ws [] (idle whole 1 []))
  starts ws is = let first : View = idle whole 1 [] in record {
    wide = ap length is ∙ length-replicate n 0;
    count = λ k. let a = ap (λ (l : List ℕ). get_or l k 0) is in let z = zeros n k in let o = owns_none k first refl in omega arith;
    list = record {
      limit = λ k. let a = may_none k first refl refl in omega arith;
      lives = λ k. let o = owns_none k first refl in let none : count_of k (first ∷ []) ≡ 0 = omega arith in let a = ap living none in omega arith;
      right = refl;
      weights = refl;
      each = All-cons Fits first [] record { idle = λ _. refl; heavy = omega arith; gone = λ e. absurd (omega arith); bare = λ e. refl } (All-nil Fits);
    };
  }
